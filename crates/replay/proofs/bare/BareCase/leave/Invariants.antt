-- `BareCase::leave` meets its contract: the words that were passed over change nothing of what is behind the case.
use Rattle.std.proofs.Common.{◌≡◌, length}
use Rattle.replay.specs.Words.{behind_case}
use Rattle.replay.specs.Bare.{bare_ahead}
use Rattle.replay.proofs.bare.BareCase.leave.Given as goal

abbrev pub invariant-loop : goal.invariant-loop
invariant-loop l =
    (l.self.list ≡ l.initial.self.list)
    × (behind_case (bare_ahead l.initial.self.list.now l.self.at)
    ≡ behind_case (bare_ahead l.initial.self.list.now l.initial.self.at))

abbrev pub decreases-loop : goal.decreases-loop
decreases-loop l = length (bare_ahead l.self.list.now l.self.at)
