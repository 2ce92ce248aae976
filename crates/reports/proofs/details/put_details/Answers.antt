-- `details::put_details` meets its contract: each entry's details behind those before it.
use Rattle.std.proofs.Common.{arith}
use Rattle.reports.proofs.LoopLaws.{starts, ends, there, near, place_small, no_item, on}
use Rattle.reports.proofs.details.put_details.Goals as goal

pub loop-item-init : goal.loop-item-init
loop-item-init c = starts c.args.table.rows.all.now c.args.table.items.now c.args.sink.now c.requires.0.deep

pub first_of-first-requires : goal.first_of-first-requires
first_of-first-requires c =
    let i = c.loop-item.invariant in
    rw c.row_item-x.ensures.1 (there i c.requires.0 _ c.loop-item-test.true, near i c.requires.0 _ c.loop-item-test.true)

pub put_own-requires : goal.put_own-requires
put_own-requires c =
    let i = c.loop-item.invariant in
    rw c.row_item-x.ensures.1 (there i c.requires.0 _ c.loop-item-test.true, place_small i c.requires.0 c.loop-item-test.true c.requires.1)

pub bounds-starts-item : goal.bounds-starts-item
bounds-starts-item c =
    let d = (there c.loop-item.invariant c.requires.0 no_item c.loop-item-test.true) in omega (arith, d)

pub loop-item-preserved : goal.loop-item-preserved
loop-item-preserved c =
    let x = c.row_item-x.ensures in
    on c.loop-item.invariant c.requires.0 _ c.loop-item-test.true (rw (x.0, x.1) at c.first_of-first.ensures)
    (rw (x.0, x.1) at c.put_own.ensures)

pub returns : goal.returns
returns c = ends c.loop-item.invariant c.loop-item-test.false
