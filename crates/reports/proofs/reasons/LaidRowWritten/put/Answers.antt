-- The chain of a row meets its contract: one group after the other.
use Rattle.reports.proofs.OutwardLaws.{going-starts, going-room, going-falls, going_on, going-ends}
use Rattle.reports.proofs.reasons.LaidRowWritten.put.Goals as goal

pub loop-outer-init : goal.loop-outer-init
loop-outer-init c = going-starts c.args.self c.requires c.put_own.ensures c.outer-outer.ensures

pub put_group-requires : goal.put_group-requires
put_group-requires c = going-room c.loop-outer.invariant c.in-Some.is

pub loop-outer-smaller : goal.loop-outer-smaller
loop-outer-smaller c = going-falls c.loop-outer.invariant c.in-Some.is _ c.outer-outer-in-Some.ensures

pub loop-outer-preserved : goal.loop-outer-preserved
loop-outer-preserved c = going_on c.loop-outer.invariant c.in-Some.is _ c.outer-outer-in-Some.ensures c.put_group.ensures

pub returns : goal.returns
returns c = going-ends c.loop-outer.invariant c.in_default.is
