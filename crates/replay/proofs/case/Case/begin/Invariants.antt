-- `Case::begin` meets its contract: the periods that were passed over change nothing of where the next case begins.
use Rattle.std.proofs.Common.{◌≡◌, length}
use Rattle.replay.specs.Words.{ahead, first_case}
use Rattle.replay.proofs.case.Case.begin.Given as goal

abbrev pub invariant-loop-behind : goal.invariant-loop-behind
invariant-loop-behind l =
    (l.self.list ≡ l.initial.self.list)
    × (first_case (ahead l.initial.self.list.now l.self.cursor)
    ≡ first_case (ahead l.initial.self.list.now l.initial.self.cursor))

abbrev pub decreases-loop-behind : goal.decreases-loop-behind
decreases-loop-behind l = length (ahead l.self.list.now l.self.cursor)
