-- The words so far were put.
use Prim.Native.Nat.{◌-◌}
use lib.ListN.{length}
use Rattle.wording.proofs.WalkLaws.{WordsPut}
use Rattle.wording.proofs.put_words.Given as goal

abbrev pub invariant-loop-w : goal.invariant-loop-w
invariant-loop-w l = WordsPut l.text l.fn.cursor l.cursor l.fn.sink l.sink

abbrev pub decreases-loop-w : goal.decreases-loop-w
decreases-loop-w l = length l.text - l.cursor.at
