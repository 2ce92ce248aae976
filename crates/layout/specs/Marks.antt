-- What linking the rows of each union does: from the last row back each comes before what its base names, and so each
-- names the next of its union.
-- Assumes nothing.
use Rattle.std.specs.Prelude.{ℕ, zero, suc, ◌-◌, ◌≤◌, ◌<◌, ◌≡◌, List, eqb, length, set, if◌then◌else◌, Option, None, Some}
use Rattle.definition.specs.declared.TheConstants.{MOST_STATEMENTS}
use Rattle.rows.specs.declared.Row.{Row}
use Rattle.rows.specs.Rows.{row_code, row_in}
use Rattle.layout.specs.Places.{named, unnamed}
use Rattle.layout.specs.Shown.{union_of}

-- w with a next row of its union in row k
abbrev pub set_next : List Row → ℕ → Option ℕ → List Row
set_next w k next = set w k (named (row_in w k) next)

-- w with row k before what its base names
abbrev pub link_to : List Row → ℕ → Option ℕ → List Row
link_to w k None = w
link_to w k (Some base) = set_next (set_next w k (row_in w base).place.next) base (Some k)

abbrev pub link_row : List Row → ℕ → List Row
link_row w k = link_to w k (row_in w k).place.base

-- the first of the n rows from k on that names the base u: its row and 1, or 0 for none
unfoldable pub first_from : List Row → ℕ → ℕ → ℕ → ℕ
first_from w u k zero = 0
first_from w u k (suc n) = if eqb (row_code (row_in w k).place.base) u then suc k else first_from w u (suc k) n

-- the rows are as they were, but for the next rows of their unions
pub record RowsKept (w w' : List Row) : Type 0 where
  pub long : length w' ≡ length w
  pub same : (k : ℕ) → unnamed (row_in w' k) ≡ unnamed (row_in w k)

-- no row from `from` up to `to` names a next one; a base is an earlier of these rows, and has no base
pub record Unlinked (w : List Row) (from to : ℕ) : Type 0 where
  pub fits : to ≤ length w
  pub few : to ≤ MOST_STATEMENTS
  pub nexts : (i : ℕ) → from ≤ i → i < to → row_code (row_in w i).place.next ≡ 0
  pub back : (i : ℕ) → from ≤ i → i < to → row_code (row_in w i).place.base ≤ i
  pub bases :
      (i : ℕ) → from ≤ i → i < to → 0 < row_code (row_in w i).place.base → (from < row_code (row_in w i).place.base) × (row_code (row_in w (row_code (row_in w i).place.base - 1)).place.base ≡ 0)

-- each row from `from` up to `to` names the next of its union
pub record UnionsLinked (w : List Row) (from to : ℕ) (w' : List Row) : Type 0 where
  pub kept : RowsKept w w'
  pub nexts : (i : ℕ) → from ≤ i → i < to → row_code (row_in w' i).place.next ≡ first_from w (union_of w i) (suc i) (to - suc i)
