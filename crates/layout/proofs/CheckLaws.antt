-- Refusal 30: the check of a list, entry by entry, along the rows that hold it.
-- Assumes nothing.
use Prim.Native.Nat.{ℕ}
use mathlib.Core.Path.{◌≡◌, refl, sym, ap, ◌∙◌}
use mathlib.Core.Bool.{Bool, true, false}
use mathlib.Core.List.{List, ◌∷◌}
use Rattle.std.specs.Prelude.{Option, None, Some}
use lib.Dec.{ltb}
use Rattle.definition.specs.declared.Refusal.{Refusal}
use Rattle.definition.specs.declared.Entry.{Entry}
use Rattle.std.specs.Prelude.{if◌then◌else◌}
use Rattle.definition.specs.Basic.{is_given, Ok, ◌>>=◌, and_then, refuse_if}
use Rattle.definition.specs.Fold.{Entries, entry, Place, place_of, find, fold_check}
use Rattle.rows.specs.declared.Row.{Row}
use Rattle.rows.specs.Rows.{row_code, row_in}
use Rattle.layout.specs.Targets.{bases_at, offset_of, base_from, base_after}
use Rattle.layout.specs.Places.{entry_in}
use Rattle.layout.proofs.SearchLaws.{row-found}
use Rattle.layout.specs.Checks.{check_base, check_entry, check_row}
use Rattle.layout.specs.Shown.{bases_after}

-- ---------------------------------------------------------------- one entry

module _ (text : List ℕ) (bases : List Place) (e : Entry) (members later : Entries) where
  check-base :
      is_given e.redefines ≡ false →
      fold_check text bases (entry e members later) ≡ fold_check text (place_of e ∷ bases) later
  unfolding fold_check
  check-base g = rw (g, fold_check)

  module _ (g : is_given e.redefines ≡ true) where
    check-alone :
        find text e.redefines bases ≡ None →
        fold_check text bases (entry e members later) ≡ fold_check text bases later
    unfolding fold_check
    check-alone h = rw (g, h, fold_check)

    check-under :
        {base : ℕ} →
        find text e.redefines bases ≡ Some base →
        fold_check text bases (entry e members later)
        ≡ (refuse_if (ltb e.offset base) (Refusal.StartsBeforeBase e.at) >>= λ _. fold_check text bases later)
    unfolding fold_check
    check-under h = rw (g, h, fold_check)

  by-base :
      is_given e.redefines ≡ true →
      (o : Option ℕ) →
      find text e.redefines bases ≡ o →
      fold_check text bases (entry e members later) ≡ (check_entry text bases e >>= λ _. fold_check text (bases_after e bases) later)
  unfolding and_then
  by-base g None h = check-alone g h ∙ rw (g, h)
  by-base g (Some base) h = check-under g h ∙ rw (g, h)

  pub by_kind :
      (b : Bool) →
      is_given e.redefines ≡ b →
      fold_check text bases (entry e members later) ≡ (check_entry text bases e >>= λ _. fold_check text (bases_after e bases) later)
  unfolding and_then
  by_kind true g = by-base g (find text e.redefines bases) refl
  by_kind false g = check-base g ∙ rw g

-- ---------------------------------------------------------------- one row

-- the base that a row names is the one that the check asks for
pub row-check : (t : List ℕ) (w : List Row) (i last : ℕ) → row_code (row_in w i).place.base ≡ base_after t w i last → check_row w i ≡ check_entry t (bases_at w last) (entry_in w i)
row-check t w i last e = ap (λ (n : ℕ). check_base (row_in w i).statement.at (row_in w i).place.offset (offset_of w n)) e ∙ go (is_given (row_in w i).statement.clauses.redefines)
  where
    go :
        (g : Bool) →
        check_base (row_in w i).statement.at (row_in w i).place.offset (offset_of w (if g then base_from t (row_in w i).statement.clauses.redefines w last last else 0))
        ≡ (if g then check_base (row_in w i).statement.at (row_in w i).place.offset (find t (row_in w i).statement.clauses.redefines (bases_at w last)) else Ok tt)
    go true = ap (check_base (row_in w i).statement.at (row_in w i).place.offset) (sym (row-found t w (row_in w i).statement.clauses.redefines true last last))
    go false = refl
