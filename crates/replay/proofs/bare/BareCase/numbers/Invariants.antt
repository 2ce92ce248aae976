-- `BareCase::numbers` meets its contract: what is told of all the numbers is what is told of those that are left.
use Rattle.std.proofs.Common.{◌≡◌, drop}
use Rattle.replay.specs.Bare.{bare_ahead}
use Rattle.replay.proofs.SaysLaws.{Left}
use Rattle.replay.proofs.bare.BareCase.numbers.Given as goal

abbrev pub invariant-loop-n : goal.invariant-loop-n
invariant-loop-n l =
    (l.self.list ≡ l.initial.self.list)
    × Left l.initial.self.list.now l.expected (drop l.n-index l.expected)
    (bare_ahead l.initial.self.list.now l.initial.self.at) (bare_ahead l.initial.self.list.now l.self.at)
