-- `BareCase::begin` meets its contract: the periods that were passed over change nothing of where the next case begins.
use Rattle.std.proofs.Common.{◌≡◌, length}
use Rattle.replay.specs.Words.{first_case}
use Rattle.replay.specs.Bare.{bare_ahead}
use Rattle.replay.proofs.bare.BareCase.begin.Given as goal

abbrev pub invariant-loop-self : goal.invariant-loop-self
invariant-loop-self l =
    (l.self.list ≡ l.initial.self.list)
    × (first_case (bare_ahead l.initial.self.list.now l.self.at)
    ≡ first_case (bare_ahead l.initial.self.list.now l.initial.self.at))

abbrev pub decreases-loop-self : goal.decreases-loop-self
decreases-loop-self l = length (bare_ahead l.self.list.now l.self.at)
