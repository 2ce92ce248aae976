-- The root that is dropped: none where the fields are all of the tree, and the first statement where they are fewer.
-- Assumes nothing.
use Prim.Native.Nat.{ℕ, ◌+◌, ◌-◌, ◌≤◌, ◌<◌}
use mathlib.Core.Path.{◌≡◌, refl, sym, ap, ◌∙◌}
use mathlib.Core.List.{List}
use native.Mathlib.Omega.{arith}
use Rattle.std.specs.Prelude.{Option, None, Some}
use Rattle.definition.specs.declared.Statement.{Statement}
use Rattle.definition.specs.Tree.{Forest, leaf, item, fields, root}
use Rattle.definition.specs.Owner.{size}
use Rattle.rows.specs.declared.Row.{Row}
use Rattle.rows.specs.Rows.{statement_at}
use Rattle.layout.specs.Places.{rows_forest}
use Rattle.layout.proofs.EntriesLaws.{size-stretch}
use Rattle.layout.proofs.RowLaws.{children-end, forest-split}

whole-none : (f : Forest) → fields f ≡ f → root f ≡ None
unfolding fields
whole-none leaf h = refl
whole-none (item s leaf leaf) h = refl
whole-none (item s (item t kids later) leaf) h = absurd (omega (arith, ap size h))
whole-none (item s leaf (item t kids later)) h = refl
whole-none (item s (item u a b) (item t kids later)) h = refl

fewer-first : (s : Statement) (kids later : Forest) → size (fields (item s kids later)) < size (item s kids later) → root (item s kids later) ≡ Some s
unfolding fields
fewer-first s leaf leaf h = absurd (omega arith)
fewer-first s (item t kids later) leaf h = refl
fewer-first s leaf (item t kids later) h = absurd (omega arith)
fewer-first s (item u a b) (item t kids later) h = absurd (omega arith)

module _ (w : List Row) (from to : ℕ) (dropped : fields (rows_forest w 0 to) ≡ rows_forest w from to) where
  pub no-root : from ≡ 0 → None ≡ root (rows_forest w 0 to)
  no-root z = sym (whole-none (rows_forest w 0 to) (dropped ∙ ap (λ (k : ℕ). rows_forest w k to) z))

  pub a-root : (from ≡ 0 → ⊥) → from ≤ to → Some (statement_at w 0) ≡ root (rows_forest w 0 to)
  a-root n l =
      let split = forest-split w 0 to _ (children-end w 0 to (omega arith)) in
      let few = ap size (ap fields (sym split) ∙ dropped) in
      let many = ap size (sym split) in
      sym
      (ap root split
      ∙ fewer-first (statement_at w 0) _ _ (omega (arith, few, many, size-stretch w from to, size-stretch w 0 to)))
