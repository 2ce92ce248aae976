-- `Case::bytes` meets its contract: what is told of all the bytes is what is told of those that are left.
use Rattle.std.proofs.Common.{◌≡◌, drop}
use Rattle.replay.specs.Words.{ahead}
use Rattle.replay.proofs.SaysLaws.{Left}
use Rattle.replay.proofs.case.Case.bytes.Given as goal

abbrev pub invariant-loop-b : goal.invariant-loop-b
invariant-loop-b l =
    (l.self.list ≡ l.initial.self.list)
    × Left l.initial.self.list.now l.expected (drop l.b-index l.expected)
    (ahead l.initial.self.list.now l.initial.self.cursor) (ahead l.initial.self.list.now l.self.cursor)
