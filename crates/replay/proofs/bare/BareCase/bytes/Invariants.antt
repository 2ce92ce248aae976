-- `BareCase::bytes` meets its contract: what is told of all the bytes is what is told of those that are left.
use Rattle.std.proofs.Common.{◌≡◌, drop}
use Rattle.replay.specs.Bare.{bare_ahead}
use Rattle.replay.proofs.SaysLaws.{Left}
use Rattle.replay.proofs.bare.BareCase.bytes.Given as goal

abbrev pub invariant-loop-b : goal.invariant-loop-b
invariant-loop-b l =
    (l.self.list ≡ l.initial.self.list)
    × Left l.initial.self.list.now l.expected (drop l.b-index l.expected)
    (bare_ahead l.initial.self.list.now l.initial.self.at) (bare_ahead l.initial.self.list.now l.self.at)
