-- `redefines::FingerprintedRows::base_of` meets its contract: no target, a target that is a base, and one that is a redefiner.
use Prim.Native.Nat.{ℕ, suc, ◌≤◌}
use mathlib.Core.Path.{◌≡◌, sym, ap, ◌∙◌}
use mathlib.Core.Bool.{Bool, true, false}
use mathlib.Core.List.{List}
use Rattle.definition.specs.declared.Span.{Span}
use Rattle.std.specs.Prelude.{if◌then◌else◌, Option, None, Some}
use Rattle.rows.specs.declared.Row.{Row}
use Rattle.rows.specs.Rows.{row_of_code, row_code, before_in}
use Rattle.rows.proofs.RowLaws.{row-back}
use Rattle.layout.specs.declared.redefines.SearchEnd.{SearchEnd}
use Rattle.layout.specs.Targets.{left_out, is_target, Ended, Named, base_from}
use Rattle.layout.proofs.SearchLaws.{row_low, row_here, row-most, back_none}
use Rattle.layout.proofs.redefines.FingerprintedRows.base_of.Goals as goal

-- the base that a search from a target finds, and that it is no later row
abbrev Base : List ℕ → List Row → Span → Option ℕ → Option ℕ → Type 0
Base t w name target found =
    (found ≡ row_of_code (base_from t name w (row_code target) (row_code target)))
    × (base_from t name w (row_code target) (row_code target) ≤ row_code target)

none : (t : List ℕ) (w : List Row) (name : Span) {target found : Option ℕ} → target ≡ None → found ≡ None → Base t w name target found
none t w name e n = rw e (n ∙ ap row_of_code (sym (back_none t w name)), row-most t w name true 0 0)

module _ (t : List ℕ) (w : List Row) (name : Span) {target : Option ℕ} {row : ℕ} (e : target ≡ Some row) where
  -- the base from the sibling before that row back
  abbrev further : ℕ
  further = base_from t name w row (before_in w row)

  abbrev back : ℕ
  back = base_from t name w (suc row) (suc row)

  here : {b : Bool} → is_target t name true w row ≡ b → back ≡ (if b then suc row else further)
  here p = row_here t w name true row ∙ ap (λ (b : Bool). if b then suc row else further) p

  made : {found : Option ℕ} → found ≡ row_of_code back → Base t w name target found
  made p = rw e (p, row-most t w name true (suc row) (suc row))

  module _ {o : Bool} (p : o ≡ left_out true w row) where
    base : o ≡ false → Named t name w (row_code target) → Base t w name target (Some row)
    base q n =
        let same : Named t name w (suc row) = rw e at n in
        let is : is_target t name true w row ≡ true = rw (← p, q) same in
        made (sym (ap row_of_code (here is) ∙ row-back row))

    module _ (q : o ≡ true) where
      before : back ≡ further
      before = here {b = false} (rw (← p, q))

      module _ {n : ℕ} (z : n ≡ (before_in w row)) where
        second : n ≤ row → {r : SearchEnd} → Ended t name true w n r → Base t w name target r.row
        second l x = made (x.row ∙ ap row_of_code (sym (before ∙ ap (base_from t name w row) (sym z) ∙ row_low t w name true row n l)))

pub returns-in_err-row : goal.returns-in_err-row
returns-in_err-row c = none _ _ _ c.in_err-row.was (search c.from_residual.ensures)

pub returns-then-passed_over : goal.returns-then-passed_over
returns-then-passed_over c =
    second _ _ _ c.in_ok-row.was c.passed_over.ensures c.if-passed_over.true c.siblings_end-before.ensures.0
    c.siblings_end-before.ensures.1 c.search_back.ensures

pub returns : goal.returns
returns c = let a = c.args in
    base a.self.text.now a.self.rows.all.now a.redefines c.in_ok-row.was c.passed_over.ensures c.if-passed_over.false c.requires.1
