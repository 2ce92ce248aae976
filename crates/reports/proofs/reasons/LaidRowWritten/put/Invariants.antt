-- One group after the other.
use Rattle.reports.proofs.OutwardLaws.{Going, outer_code}
use Rattle.reports.proofs.reasons.LaidRowWritten.put.Given as goal

abbrev pub invariant-loop-outer : goal.invariant-loop-outer
invariant-loop-outer l = Going l.fn.self l.fn.sink l.sink l.outer

abbrev pub decreases-loop-outer : goal.decreases-loop-outer
decreases-loop-outer l = outer_code l.outer
