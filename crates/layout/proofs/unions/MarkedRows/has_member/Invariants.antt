-- `unions::MarkedRows::has_member` meets its contract: no entry that is done has the name.
use Rattle.rows.specs.declared.Row.{Row}
use Prim.Native.Nat.{ℕ}
use mathlib.Core.Path.{◌≡◌}
use mathlib.Core.Bool.{false}
use mathlib.Core.List.{List}
use Rattle.definition.specs.declared.Span.{Span}
use Rattle.definition.specs.Fold.{Entries, has_member}
use Rattle.layout.proofs.WidthLaws.{Along}
use Rattle.layout.proofs.unions.MarkedRows.has_member.Given as goal

-- what the loop keeps
pub record Left (t : List ℕ) (w : List Row) (from to : ℕ) (name : Span) (i : ℕ) : Type 0 where
  pub last : ℕ
  pub done : Entries
  pub along : Along t w from to i last done
  pub is : has_member t name done ≡ false

abbrev pub invariant-loop-sibling : goal.invariant-loop-sibling
invariant-loop-sibling l =
    (goal.iterator-loop-sibling).can_next l.sibling-iterator
    × (goal.iterator-loop-sibling).is_finite l.sibling-iterator
    × (l.sibling-iterator.rows ≡ l.self.rows)
    × Left l.self.text.now l.self.rows.all.now l.self.from l.self.rows.count l.name l.sibling-iterator.from
