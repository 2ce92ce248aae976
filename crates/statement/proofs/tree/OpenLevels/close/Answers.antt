use Prim.Native.Nat.{ℕ, ◌-◌, ◌≤◌, ◌<◌}
use mathlib.Core.Path.{◌≡◌, refl, sym, ap, subst, ◌∙◌}
use mathlib.Core.List.{List, [], ◌∷◌}
use native.Mathlib.Omega.{arith}
use lib.ListN.{length, get_or}
use Rattle.std.specs.Prelude.{Option, None, Some}
use Rattle.definition.specs.Tree.{Open, opened, still_open, innermost}
use Rattle.definition.proofs.ParentLaws.{open_none, open-smaller, open-closed, Fit, open-few, open-fit}
use Rattle.rows.specs.declared.Row.{Row}
use Rattle.rows.specs.Rows.{row_code}
use Rattle.statement.specs.declared.tree.OpenLevels.{OpenLevels}
use Rattle.statement.specs.Levels.{usage_in, parent_in, outer_row, top_down, stack_of, Closed}
use Rattle.statement.proofs.LevelLaws.{down-none, down-next, length-down}
use Rattle.statement.proofs.tree.OpenLevels.close.Invariants.{Left}
use Rattle.statement.proofs.tree.OpenLevels.close.Goals as goal

-- the row around an open one
outer-number : (w : List Row) (row : Option ℕ) → 0 < row_code row → row_code (outer_row w row) ≡ parent_in w (row_code row - 1)
outer-number w None h = absurd (omega arith)
outer-number w (Some j) h = ap (λ (i : ℕ). parent_in w i) (let same : j ≡ row_code (Some j) - 1 = omega arith in same)

module _ {w : List Row} {k level : ℕ} {o₀ o : OpenLevels} (inv : Left w k level o₀ o) where
  -- the innermost, and those around it
  abbrev first : Open
  first = opened (get_or o.levels (o.count - 1) 0) (row_code o.row) (usage_in w (row_code o.row - 1))

  abbrev outer : List Open
  outer = top_down w o.levels (o.count - 1) (parent_in w (row_code o.row - 1))

  down : 0 < o.count → stack_of w o ≡ first ∷ outer
  down h = down-next w o.levels o.count (row_code o.row) h

  fit_next : 0 < o.count → Fit k (first ∷ outer)
  fit_next h = subst (Fit k) (down h) inv.fit

  row_in : 0 < o.count → row_code o.row ≤ k
  row_in h = (fit_next h).2

  -- the innermost is closed
  next :
      0 < o.count →
      level ≤ get_or o.levels (o.count - 1) 0 →
      {row : Option ℕ} →
      row ≡ outer_row w o.row →
      Left w k level o₀ (record { levels = o.levels; count = o.count - 1; row = row })
  next h l {row} e =
      let few = inv.few in
      let same : top_down w o.levels (o.count - 1) (row_code row) ≡ outer =
      ap (top_down w o.levels (o.count - 1)) (ap row_code e ∙ outer-number w o.row (fit_next h).1) in
      record {
        byte = inv.byte;
        few = omega arith;
        whole = inv.whole;
        fit = subst (Fit k) (sym same) (fit_next h).3;
        rest = inv.rest ∙ ap (still_open level) (down h) ∙ open-closed level first outer l ∙ ap (still_open level) (sym same);
      }

  -- the levels that are left all stay open
  all_stay :
      (r : OpenLevels) →
      stack_of w r ≡ still_open level (stack_of w o) →
      row_code r.row ≡ innermost (stack_of w r) →
      row_code r.row ≤ k →
      Closed w k o₀ level r
  all_stay r e i l =
      let same : stack_of w r ≡ still_open level (stack_of w o₀) = e ∙ sym inv.rest in
      record {
        is = same;
        byte = inv.byte;
        few = omega (arith, open-few level k (stack_of w o₀) inv.whole, ap length same, length-down w r.levels r.count (row_code r.row));
        fit = subst (Fit k) (sym same) (open-fit level k (stack_of w o₀) inv.whole);
        row = i;
        low = l;
      }

  -- the innermost stays open
  found : 0 < o.count → get_or o.levels (o.count - 1) 0 < level → Closed w k o₀ level o
  found h l =
      all_stay o (down h ∙ sym (open-smaller level first outer l) ∙ ap (still_open level) (sym (down h)))
      (sym (ap innermost (down h))) (row_in h)

  -- none is left
  none_left : o.count ≤ 0 → Closed w k o₀ level (record { levels = o.levels; count = o.count; row = None })
  none_left h =
      let e : o.count ≡ 0 = omega arith in
      let none : (r : ℕ) → top_down w o.levels o.count r ≡ [] = λ r. ap (λ (m : ℕ). top_down w o.levels m r) e ∙ down-none w o.levels r in
      all_stay (record { levels = o.levels; count = o.count; row = None })
      (none 0 ∙ sym (open_none level) ∙ ap (still_open level) (sym (none (row_code o.row)))) (sym (ap innermost (none 0))) (omega arith)

-- the loop's number is how many are open
module _ {w : List Row} {k level : ℕ} {o₀ o : OpenLevels} {i : ℕ} (at : o.count ≡ i) (inv : Left w k level o₀ o) where
  found_at : 0 < i → get_or o.levels (i - 1) 0 < level → Closed w k o₀ level o
  found_at h l = found inv (rw at h) (rw at l)

  row_at : 0 < i → row_code o.row ≤ k
  row_at h = row_in inv (rw at h)

  next_at :
      0 < i →
      level ≤ get_or o.levels (i - 1) 0 →
      {row : Option ℕ} →
      row ≡ outer_row w o.row →
      Left w k level o₀ (record { levels = o.levels; count = i - 1; row = row })
  next_at h l {row} e =
      subst (λ (n : ℕ). Left w k level o₀ (record { levels = o.levels; count = n - 1; row = row })) at
      (next inv (rw at h) (rw at l) e)

pub returns-then-self-inner : goal.returns-then-self-inner
returns-then-self-inner c =
    found_at c.loop-inner.invariant.0 c.loop-inner.invariant.1 c.loop-inner-test.true c.if-self-inner.true

pub outer_row-self-requires : goal.outer_row-self-requires
outer_row-self-requires c = row_at c.loop-inner.invariant.0 c.loop-inner.invariant.1 c.loop-inner-test.true

pub loop-inner-preserved : goal.loop-inner-preserved
loop-inner-preserved c = (
  refl,
  next_at c.loop-inner.invariant.0 c.loop-inner.invariant.1 c.loop-inner-test.true c.if-self-inner.false
      c.outer_row-self.ensures,
)

pub returns : goal.returns
returns c = none_left c.loop-inner.invariant.1 (omega (arith, c.loop-inner.invariant.0, c.loop-inner-test.false))
