-- `readings::read` meets its contract: a text that passes the checks is short, and the rows hold its statements.
use Rattle.std.proofs.Common.{ℕ, List, ◌≤◌, length, arith, Result, Ok, Err, IfOk}
use Rattle.definition.specs.declared.Refusal.{Refusal}
use Rattle.definition.specs.Calls.{kept_statements}
use Rattle.definition.proofs.CallsLaws.{passes}
use Rattle.rows.specs.declared.Row.{Row}
use Rattle.statement.specs.TreeReading.{RowsOf, rows_needed}
use Rattle.test_lists.proofs.text_cases.readings.read.Goals as goal

fits : (text : List ℕ) (w₀ w : List Row) (r : Result ℕ Refusal) → RowsOf text w₀ (kept_statements text) r w → IfOk r (λ n. n ≤ length w)
fits text w₀ w (Ok n) rows = rows.few.1
fits text w₀ w (Err r) rows = tt

pub read_rows-requires : goal.read_rows-requires
unfolding rows_needed
read_rows-requires c =
    let p = passes c.args.text.now c.args.work c.entry_checks.ensures c.in_ok-entry_checks.was in
    (p.short, omega (arith, c.requires))

pub returns : goal.returns
returns c = fits _ _ _ _ c.read_rows.ensures
