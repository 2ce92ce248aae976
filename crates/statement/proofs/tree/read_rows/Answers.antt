-- `tree::read_rows` meets its contract: 50, or else what the statements lead to.
use Prim.Native.Nat.{ℕ}
use mathlib.Core.Path.{◌≡◌, refl, sym, ◌∙◌, subst}
use mathlib.Core.List.{List}
use Rattle.definition.specs.declared.Refusal.{Refusal}
use Rattle.definition.specs.declared.Statement.{Statement}
use Rattle.definition.specs.Basic.{Answer, Err, Ok, and_then}
use Rattle.definition.proofs.Answers.{handed_on}
use Rattle.definition.specs.Calls.{literal_check, kept_statements}
use Rattle.definition.specs.Statement.{statements}
use Rattle.definition.specs.Words.{statement_words}
use Rattle.statement.specs.TreeReading.{RowsOf}
use Rattle.rows.specs.declared.Row.{Row}
use Rattle.statement.proofs.tree.read_rows.Goals as goal

module _ (t : List ℕ) {w₀ w : List Row} where
  -- no literal is left open
  passed : {r : Answer ℕ} → Ok tt ≡ literal_check t → RowsOf t w₀ (statements t 0 (statement_words t)) r w → RowsOf t w₀ (kept_statements t) r w
  unfolding kept_statements and_then
  passed {r} p h =
      let same : statements t 0 (statement_words t) ≡ kept_statements t = rw (sym p) in
      subst (λ (k : Answer (List Statement)). RowsOf t w₀ k r w) same h

  -- one is
  bad : {r : Refusal} → Err r ≡ literal_check t → RowsOf t w₀ (kept_statements t) (Err r) w
  unfolding kept_statements and_then
  bad {r} p =
      let same : kept_statements t ≡ Err r = rw (sym p) in
      rw same (record { is = refl; few = tt; untouched = tt })

pub returns-in_ok-left_open-in-Ok : goal.returns-in_ok-left_open-in-Ok
returns-in_ok-left_open-in-Ok c = let h = c.in-Ok.ensures in passed _ (c.in_ok-left_open-in-Ok.ensures ∙ sym h.end.1) h.rows

pub returns-in_err-left_open-in-Ok : goal.returns-in_err-left_open-in-Ok
returns-in_err-left_open-in-Ok c =
    let h = c.in-Ok.ensures in
    rw (handed_on _ c.from_residual.ensures.1) (bad _ (c.in_err-left_open-in-Ok.ensures ∙ sym h.end.1))

pub returns-in_ok-open_check-in-Err : goal.returns-in_ok-open_check-in-Err
returns-in_ok-open_check-in-Err c = let h = c.in-Err.ensures in passed _ c.in_ok-open_check-in-Err.ensures h.rows

pub returns-in_err-open_check-in-Err : goal.returns-in_err-open_check-in-Err
returns-in_err-open_check-in-Err c =
    rw (handed_on _ c.from_residual-in_err-open_check-in-Err.ensures.1) (bad _ c.in_err-open_check-in-Err.ensures)
