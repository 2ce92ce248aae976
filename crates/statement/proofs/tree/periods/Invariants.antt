-- `tree::periods` meets its contract: the periods of the bytes so far were counted.
use Rattle.std.proofs.Common.{◌≡◌, take}
use Rattle.statement.specs.TreeReading.{periods}
use Rattle.statement.proofs.tree.periods.Given as goal

abbrev pub invariant-loop-b : goal.invariant-loop-b
invariant-loop-b l = l.n ≡ periods (take l.b-index l.text)
