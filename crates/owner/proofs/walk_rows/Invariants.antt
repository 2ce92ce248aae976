-- What is left of the walk gives the answer.
use Prim.Native.Nat.{◌-◌}
use Rattle.owner.proofs.OwnerLaws.{At}
use Rattle.owner.proofs.walk_rows.Given as goal

abbrev pub invariant-loop-k : goal.invariant-loop-k
invariant-loop-k l = At l.rows.all.now l.from l.rows.count l.position l.k l.first l.q

abbrev pub decreases-loop-k : goal.decreases-loop-k
decreases-loop-k l = l.rows.count - l.k
