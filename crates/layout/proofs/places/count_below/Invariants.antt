-- `places::count_below` meets its contract: the rows from k on have their counts.
use Prim.Native.Nat.{ℕ, ◌≤◌, ◌<◌}
use mathlib.Core.Path.{◌≡◌}
use mathlib.Core.List.{List}
use lib.ListN.{length}
use Rattle.rows.specs.declared.Row.{Row}
use Rattle.rows.specs.Rows.{row_in}
use Rattle.layout.specs.Places.{rows_forest}
use Rattle.layout.specs.Children.{BelowCounted, uncounted}
use Rattle.layout.proofs.places.count_below.Given as goal

-- what the loop keeps
pub record Counting (w₀ : List Row) (n k : ℕ) (w : List Row) : Type 0 where
  pub fits : n ≤ length w₀
  pub small : n < 65536
  pub within : k ≤ n
  pub long : length w ≡ length w₀
  pub same : (j : ℕ) → uncounted (row_in w j) ≡ uncounted (row_in w₀ j)
  pub counted : BelowCounted w k (rows_forest w k n)

abbrev pub invariant-loop-row : goal.invariant-loop-row
invariant-loop-row l = Counting l.initial.rows l.n l.row l.rows

abbrev pub decreases-loop-row : goal.decreases-loop-row
decreases-loop-row l = l.row
