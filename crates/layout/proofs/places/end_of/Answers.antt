use Prim.Native.Nat.{ℕ, suc, ◌-◌, ◌≤◌, ◌<◌}
use mathlib.Core.Path.{◌≡◌, sym, ap, subst, ◌∙◌}
use mathlib.Core.List.{List}
use native.Mathlib.Omega.{arith}
use Rattle.definition.specs.Tree.{higher}
use Rattle.definition.proofs.TreeLaws.{higher-none, higher-miss}
use Rattle.rows.specs.declared.Row.{Row}
use Rattle.rows.specs.Rows.{statement_at, statements_from, row_in}
use Rattle.layout.specs.Children.{ChildrenEnd}
use Rattle.layout.proofs.RowLaws.{stretch-cons, stretch-none, higher-past}
use Rattle.layout.proofs.places.end_of.Invariants.{Left}
use Rattle.layout.proofs.places.end_of.Goals as goal

module _ {w : List Row} {i to level j : ℕ} (inv : Left w i to level j) where
  ended : higher level (statements_from w j (to - j)) ≡ 0 → ChildrenEnd w i to j
  ended e =
      record {
        low = inv.low;
        high = inv.high;
        is = rw (← inv.same-level) (omega (arith, inv.is));
      }

  done : to ≤ j → ChildrenEnd w i to to
  done h =
      let at : j ≡ to = omega (arith, h, inv.high) in
      subst (ChildrenEnd w i to) at (ended (ap (higher level) (stretch-none w j to h) ∙ higher-none level))

  -- row j is the next sibling
  module _ {row n : ℕ} (at : row ≡ j) (e : n ≡ (row_in w row).statement.level) where
    level-at : n ≡ (statement_at w j).level
    level-at = e ∙ ap (λ (k : ℕ). (row_in w k).statement.level) at

    next : level < n → {j' : ℕ} → ChildrenEnd w j to j' → {k : ℕ} → k ≡ j' → Left w i to level k
    next l {j'} c q =
        subst (Left w i to level) (sym q)
        (record {
          same-level = inv.same-level;
          low = omega (arith, inv.low, c.low);
          high = c.high;
          is = sym (higher-past w level j to j' (omega (arith, level-at)) c) ∙ inv.is;
        })

    found : j < to → n ≤ level → ChildrenEnd w i to row
    found h l =
        subst (ChildrenEnd w i to) (sym at)
        (ended
        (ap (higher level) (stretch-cons w j to h)
        ∙ higher-miss level (statement_at w j) (statements_from w (suc j) (to - suc j)) (omega (arith, level-at))))

pub returns-then-row-level : goal.returns-then-row-level
returns-then-row-level c =
    let inv = c.loop-sibling.invariant in
    let s = c.in-Some.ensures.steps in
    found inv.3 s.1 (ap (λ (r : Row). r.statement.level) c.row-in-loop-sibling.ensures) (rw inv.2 at s.0) (omega (arith, c.if-row-level.true))

pub loop-sibling-preserved : goal.loop-sibling-preserved
loop-sibling-preserved c =
    let inv = c.loop-sibling.invariant in
    let s = c.in-Some.ensures.steps in
    (tt, tt, s.3 ∙ inv.2, next inv.3 s.1 (ap (λ (r : Row). r.statement.level) c.row-in-loop-sibling.ensures) (omega (arith, c.if-row-level.false)) (rw inv.2 at s.2) s.4)

pub returns : goal.returns
returns c =
    let inv = c.loop-sibling.invariant in
    done inv.3 (rw inv.2 at c.in-None.ensures.steps.0)
