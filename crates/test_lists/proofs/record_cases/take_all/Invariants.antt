-- `take_all` meets its contract: the list of the case stays.
use Rattle.std.proofs.Common.{◌≡◌}
use Rattle.test_lists.proofs.record_cases.take_all.Given as goal

abbrev pub invariant-loop-n : goal.invariant-loop-n
invariant-loop-n g l = l.case.list ≡ l.fn.case.list
