-- The statements so far were put.
use Prim.Native.Nat.{◌-◌}
use lib.ListN.{length}
use Rattle.wording.proofs.WalkLaws.{Going}
use Rattle.wording.proofs.WordingWritten.put.Given as goal

abbrev pub invariant-loop-first : goal.invariant-loop-first
invariant-loop-first l = Going l.self.text.now l.cursor l.fn.sink l.sink

abbrev pub decreases-loop-first : goal.decreases-loop-first
decreases-loop-first l = length l.self.text.now - l.cursor.at
