-- The next sibling: row `from` counts the rows below it, and so do the rows behind its children.
use native.Mathlib.Omega.{arith}
use Rattle.layout.proofs.EntriesLaws.{counted_step, counted-numbered}
use Rattle.layout.proofs.places.SiblingsIterator.next.Goals as goal

pub next_of-end-requires : goal.next_of-end-requires
next_of-end-requires c =
    let s = c.args.self.now in
    counted-numbered s.rows.all.now s.from s.rows.count s.rows.fits (omega (arith, c.if-self-row.false)) s.counted

pub invariant_of-self : goal.invariant_of-self
invariant_of-self c =
    let s = c.args.self.now in
    record {
      counted = (counted_step s.rows.all.now s.from s.rows.count c.next_of-end.result c.next_of-end.ensures s.counted).2;
    }
