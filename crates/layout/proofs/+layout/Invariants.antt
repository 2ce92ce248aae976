-- The proof of the cycle of calls {lay_item, lay_inner, lay_list}. The measure is the depth that is left.
-- The loop's invariant: the layout of the rows from i on, in the table as it is, is the layout of the whole list in the
-- table at entry.
use Prim.Native.Nat.{ℕ, ◌+◌, ◌*◌, ◌-◌, ◌≤◌, ◌<◌}
use mathlib.Core.Path.{◌≡◌}
use mathlib.Core.List.{List}
use lib.ListN.{length}
use Rattle.definition.specs.Basic.{Answer}
use Rattle.rows.specs.declared.Row.{Row}
use Rattle.layout.specs.Outcomes.{lay_rest, lay_table, Room}
use Rattle.layout.proofs.+layout.Given as goal

-- what the loop keeps
pub record Laying
    (t : List ℕ) (w₀ w : List Row) (from to depth base i last cursor reach largest : ℕ) (checked : Answer (Unit {0}))
    : Type 0
  where
    pub same_length : length w ≡ length w₀
    pub room : Room t w i to
    pub back : last ≤ i
    pub some : 0 < largest
    pub rest : lay_table t w₀ from to depth base ≡ lay_rest t w i to depth base last cursor reach largest checked

abbrev pub decreases-lay_item : goal.decreases-lay_item
decreases-lay_item l = 3 * l.depth_left + 1

abbrev pub decreases-lay_inner : goal.decreases-lay_inner
decreases-lay_inner l = 3 * l.depth_left

abbrev pub decreases-lay_list : goal.decreases-lay_list
decreases-lay_list l = 3 * l.depth_left + 2

abbrev pub invariant-lay_list-loop-i : goal.invariant-lay_list-loop-i
invariant-lay_list-loop-i l =
    (l.next.base ≡ l.base)
    × Laying l.text l.fn.rows l.rows l.from l.to (64 - l.depth_left) l.base l.i l.next.last l.next.cursor l.reach
    l.alignment l.checked

abbrev pub decreases-lay_list-loop-i : goal.decreases-lay_list-loop-i
decreases-lay_list-loop-i l = l.to - l.i
