-- Its words so far are counted.
use Prim.Native.Nat.{◌-◌}
use lib.ListN.{length}
use Rattle.wording.proofs.WalkLaws.{Counted}
use Rattle.wording.proofs.extent_from.Given as goal

abbrev pub invariant-loop-words : goal.invariant-loop-words
invariant-loop-words l = Counted l.text l.fn.cursor l.cursor l.words

abbrev pub decreases-loop-words : goal.decreases-loop-words
decreases-loop-words l = length l.text - l.cursor.at
