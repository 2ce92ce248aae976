-- The open levels of the code as the definition's list of open statements, the innermost first; and what closing and
-- opening a level says of them.
-- Assumes nothing.
use Rattle.std.specs.Prelude.{ℕ, zero, suc, ◌-◌, ◌≤◌, ◌<◌, ◌≡◌, List, [], ◌∷◌, length, get_or, Option, None, Some}
use Rattle.definition.specs.declared.NamedUsage.{NamedUsage}
use Rattle.definition.specs.Tree.{Open, opened, still_open, innermost}
use Rattle.definition.proofs.ParentLaws.{Fit}
use Rattle.rows.specs.declared.Row.{Row}
use Rattle.rows.specs.Rows.{row_in, row_code}
use Rattle.statement.specs.declared.tree.OpenLevels.{OpenLevels}

-- the usage that holds for row k, and the row that it stands under
abbrev pub usage_in : List Row → ℕ → Option NamedUsage
usage_in w k = (row_in w k).statement.usage

abbrev pub parent_in : List Row → ℕ → ℕ
parent_in w k = row_code (row_in w k).parent

-- the first n of these levels, from the last of them down, with their rows, `row` and outward by the parents, and the
-- usages that those hold
unfoldable pub top_down : List Row → List ℕ → ℕ → ℕ → List Open
top_down w ls zero row = []
top_down w ls (suc n) row = opened (get_or ls n 0) row (usage_in w (row - 1)) ∷ top_down w ls n (parent_in w (row - 1))

-- the row that a row stands under, if there are both
abbrev pub outer_row : List Row → Option ℕ → Option ℕ
outer_row w None = None
outer_row w (Some k) = (row_in w k).parent

-- the open statements, the innermost first
abbrev pub stack_of : List Row → OpenLevels → List Open
stack_of w o = top_down w o.levels o.count (row_code o.row)

-- the usage that holds around a statement under that row, or under none
abbrev pub usage_around : List Row → Option ℕ → Option NamedUsage
usage_around w None = None
usage_around w (Some k) = usage_in w k

-- no statement is open
pub record NoneOpen (o : OpenLevels) : Type 0 where
  pub count : o.count ≡ 0

-- each open level is at least the number of those around it, so no more than 256 are open; each is that of one of the
-- first k rows, which are there
pub record Nested (w : List Row) (k : ℕ) (o : OpenLevels) : Type 0 where
  pub few : o.count ≤ 256
  pub fit : Fit k (stack_of w o)
  pub there : k ≤ length w

-- r has what stays open of o before a statement of this level: so few that it can be opened
pub record Closed (w : List Row) (k : ℕ) (o : OpenLevels) (level : ℕ) (r : OpenLevels) : Type 0 where
  pub is : stack_of w r ≡ still_open level (stack_of w o)
  pub byte : level < 256
  pub few : r.count ≤ level
  pub fit : Fit k (stack_of w r)
  pub row : row_code r.row ≡ innermost (stack_of w r)
  pub low : row_code r.row ≤ k

-- r is o with this level opened, in row k
pub record Opened (o : OpenLevels) (level k : ℕ) (r : OpenLevels) : Type 0 where
  pub is :
      (w : List Row) →
      stack_of w r ≡ opened level (suc k) (usage_in w k) ∷ top_down w o.levels o.count (parent_in w k)
  pub few : r.count ≤ 256
