-- `Case::numbers` meets its contract: what is told of all the numbers is what is told of those that are left.
use Rattle.std.proofs.Common.{◌≡◌, drop}
use Rattle.replay.specs.Words.{ahead}
use Rattle.replay.proofs.SaysLaws.{Left}
use Rattle.replay.proofs.case.Case.numbers.Given as goal

abbrev pub invariant-loop-n : goal.invariant-loop-n
invariant-loop-n l =
    (l.self.list ≡ l.initial.self.list)
    × Left l.initial.self.list.now l.expected (drop l.n-index l.expected)
    (ahead l.initial.self.list.now l.initial.self.cursor) (ahead l.initial.self.list.now l.self.cursor)
