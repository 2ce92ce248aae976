-- The end of a row's children among the rows, and the rows that count the rows below them.
-- Assumes nothing.
use Rattle.std.specs.Prelude.{ℕ, suc, ◌+◌, ◌-◌, ◌≤◌, ◌<◌, ◌≡◌, refl, List, length}
use Rattle.std.proofs.Props.{props}
use Rattle.definition.specs.Tree.{Forest, leaf, item, higher}
use Rattle.definition.specs.Owner.{size}
use Rattle.rows.specs.declared.Row.{Row}
use Rattle.rows.specs.Rows.{statement_at, statements_from, row_in}
use Rattle.layout.specs.Places.{rows_forest}

-- a row with a count of the rows below it
abbrev pub with_below : Row → ℕ → Row
with_below r below = record r { below = below }

-- j is the end of the children of row i, among the rows up to `to`
pub record ChildrenEnd (w : List Row) (i to j : ℕ) : Type 0 where
  pub low : i < j
  pub high : j ≤ to
  pub is : j ≡ suc i + higher (statement_at w i).level (statements_from w (suc i) (to - suc i))

-- row i is there, before `to`, and counts the rows below it
pub record Numbered (w : List Row) (i to : ℕ) : Type 0 where
  pub low : i < to
  pub fits : to ≤ length w
  pub is : ChildrenEnd w i to (suc i + (row_in w i).below)

-- each row of a list, from row k on, and of the lists below it counts the rows below it
abbrev pub BelowCounted : List Row → ℕ → Forest → Type 0
BelowCounted w k leaf = Unit {0}
BelowCounted w k (item s kids later) =
    ((row_in w k).below ≡ size kids) × BelowCounted w (suc k) kids × BelowCounted w (suc k + size kids) later

-- and in one way at most
BelowCounted-prop : (w : List Row) (k : ℕ) (f : Forest) → IsProp (BelowCounted w k f)
BelowCounted-prop w k leaf = λ x y. refl
BelowCounted-prop w k (item s kids later) =
    let own : IsProp ((row_in w k).below ≡ size kids) = hlevel props in
    let below = BelowCounted-prop w (suc k) kids in
    let rest = BelowCounted-prop w (suc k + size kids) later in
    λ x y i. (own x.0 y.0 i, below x.1 y.1 i, rest x.2 y.2 i)

-- the rows from `from` up to `to` are such a list
abbrev pub ListCounted : List Row → ℕ → ℕ → Type 0
ListCounted w from to = BelowCounted w from (rows_forest w from to)

pub ListCounted-prop : (w : List Row) (from to : ℕ) → IsProp (ListCounted w from to)
ListCounted-prop w from to = BelowCounted-prop w from (rows_forest w from to)

-- a row without its count
abbrev pub uncounted : Row → Row
uncounted r = with_below r 0

-- the first n rows got their counts, and the rows stayed as they were but for these
pub record BelowPut (w : List Row) (n : ℕ) (w' : List Row) : Type 0 where
  pub long : length w' ≡ length w
  pub same : (k : ℕ) → uncounted (row_in w' k) ≡ uncounted (row_in w k)
  pub counted : BelowCounted w' 0 (rows_forest w' 0 n)
