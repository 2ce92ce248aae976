-- `readings::all_rows` meets its contract: the list of the case stays.
use Rattle.std.proofs.Common.{◌≡◌}
use Rattle.test_lists.proofs.text_cases.readings.all_rows.Given as goal

abbrev pub invariant-loop-k : goal.invariant-loop-k
invariant-loop-k l = l.case.list ≡ l.fn.case.list
