-- `Case::leave` meets its contract: the words that were passed over change nothing of what is behind the case.
use Rattle.std.proofs.Common.{◌≡◌, length}
use Rattle.replay.specs.Words.{ahead, behind_case}
use Rattle.replay.proofs.case.Case.leave.Given as goal

abbrev pub invariant-loop : goal.invariant-loop
invariant-loop l =
    (l.self.list ≡ l.initial.self.list)
    × (behind_case (ahead l.initial.self.list.now l.self.cursor)
    ≡ behind_case (ahead l.initial.self.list.now l.initial.self.cursor))

abbrev pub decreases-loop : goal.decreases-loop
decreases-loop l = length (ahead l.self.list.now l.self.cursor)
