-- `places::end_of` meets its contract: the run of higher levels from j on is what is left of the run from i + 1 on.
use Prim.Native.Nat.{ℕ, suc, ◌+◌, ◌-◌, ◌≤◌, ◌<◌}
use mathlib.Core.Path.{◌≡◌}
use mathlib.Core.List.{List}
use Rattle.definition.specs.Tree.{higher}
use Rattle.rows.specs.declared.Row.{Row}
use Rattle.rows.specs.Rows.{statement_at, statements_from}
use Rattle.layout.proofs.places.end_of.Given as goal

-- the run goes on at j
pub record Left (w : List Row) (i to level j : ℕ) : Type 0 where
  pub same-level : level ≡ (statement_at w i).level
  pub low : i < j
  pub high : j ≤ to
  pub is : j + higher level (statements_from w j (to - j)) ≡ suc i + higher level (statements_from w (suc i) (to - suc i))

abbrev pub invariant-loop-sibling : goal.invariant-loop-sibling
invariant-loop-sibling l =
    (goal.iterator-loop-sibling).can_next l.sibling-iterator
    × (goal.iterator-loop-sibling).is_finite l.sibling-iterator
    × (l.sibling-iterator.rows ≡ l.rows)
    × Left l.rows.all.now l.i l.rows.count l.level l.sibling-iterator.from
