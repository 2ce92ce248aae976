use Prim.Native.Nat.{ℕ, suc, ◌+◌, ◌-◌, ◌≤◌, ◌<◌}
use mathlib.Core.Path.{◌≡◌, refl, sym, ap, subst, ◌∙◌}
use mathlib.Core.List.{List}
use native.Mathlib.Omega.{arith}
use lib.ListN.{length, set, length-set}
use lib.Seq.{get_or-set_other, get_or-set_same}
use Rattle.definition.specs.Tree.{Forest, leaf, item, above, not_above, forest}
use Rattle.definition.specs.Owner.{size}
use Rattle.definition.proofs.Lists.{tested}
use Rattle.rows.specs.declared.Row.{Row}
use Rattle.rows.specs.Rows.{row_in, statement_at}
use Rattle.rows.proofs.RowLaws.{set_keeps, statements-same}
use Rattle.layout.specs.Places.{rows_forest}
use Rattle.layout.specs.Children.{ChildrenEnd, BelowCounted, BelowPut, with_below, uncounted}
use Rattle.layout.proofs.RowLaws.{stretch-cons, forest-empty, forest-split}
use Rattle.layout.proofs.EntriesLaws.{size-stretch, counted_same}
use Rattle.layout.proofs.places.count_below.Invariants.{Counting}
use Rattle.layout.proofs.places.count_below.Goals as goal

-- counted rows, of the trees above a level and of the others
counted-sides :
    (w : List Row) (n k : ℕ) (f : Forest) →
    BelowCounted w k f →
    BelowCounted w k (above n f) × BelowCounted w (k + size (above n f)) (not_above n f)
unfolding above not_above
counted-sides w n k leaf h = (tt, tt)
counted-sides w n k (item s kids later) h =
    let ih = counted-sides w n (suc k + size kids) later h.2 in
    tested n s.level
    (λ p _.
    let e : suc k + size kids + size (above n later) ≡ k + suc (size kids + size (above n later)) = omega arith in
    simp p ((h.0, h.1, ih.0), subst (λ (m : ℕ). BelowCounted w m (not_above n later)) e ih.1))
    (λ p _. simp p (tt, subst (λ (m : ℕ). BelowCounted w m (item s kids later)) (let e : k ≡ k + 0 = omega arith in e) h))

-- row m gets its count, after the rows behind it
module _ {w : List Row} {m n e : ℕ} (fits : n ≤ length w) (c : ChildrenEnd w m n e) where
  abbrev one-put : List Row
  one-put = set w m (with_below (row_in w m) (e - suc m))

  kept : (k : ℕ) → uncounted (row_in one-put k) ≡ uncounted (row_in w k)
  kept k = set_keeps uncounted w m k refl

  one_more : BelowCounted w (suc m) (rows_forest w (suc m) n) → BelowCounted one-put m (rows_forest one-put m n)
  unfolding forest
  one_more h =
      let s = statement_at w m in
      let f = rows_forest w (suc m) n in
      let sides = counted-sides w s.level (suc m) f h in
      let first : rows_forest w m n ≡ item s (above s.level f) (not_above s.level f) =
      ap forest (stretch-cons w m n (omega (arith, c.low, c.high))) in
      let split = sym first ∙ forest-split w m n e c in
      let kids : above s.level f ≡ rows_forest w (suc m) e = cc split in
      let many : e - suc m ≡ size (above s.level f) = sym (ap size kids ∙ size-stretch w (suc m) e) in
      let own : (row_in one-put m).below ≡ size (above s.level f) =
      ap (λ (r : Row). r.below) (get_or-set_same w m _ _ (omega (arith, c.low, c.high))) ∙ many in
      let others : (j : ℕ) → suc m ≤ j → (row_in w j).below ≡ (row_in one-put j).below =
      λ j l. sym (ap (λ (r : Row). r.below) (get_or-set_other w m j _ _ (λ q. omega arith))) in
      let same : rows_forest w m n ≡ rows_forest one-put m n =
      ap forest (statements-same w one-put (λ k. sym (ap (λ (r : Row). r.statement) (kept k))) m (n - m)) in
      subst (BelowCounted one-put m) (sym first ∙ same) (
        own,
        counted_same w one-put (above s.level f) (suc m) others sides.0,
        counted_same w one-put (not_above s.level f) (suc m + size (above s.level f))
            (λ j l. others j (omega arith)) sides.1,
      )

start : (w : List Row) (n : ℕ) → (n ≤ length w) × (n < 65536) → Counting w n n w
start w n h =
    record {
      fits = h.0;
      small = h.1;
      within = omega arith;
      long = refl;
      same = λ j. refl;
      counted = subst (BelowCounted w n) (sym (forest-empty w n n (omega arith))) tt;
    }

module _ {w₀ w : List Row} {n k : ℕ} (inv : Counting w₀ n k w) where
  behind :
      0 < k →
      {v : List Row} {count : ℕ} →
      (v ≡ w) × (count ≡ n) →
      (k - 1 < count) × BelowCounted v (k - 1 + 1) (rows_forest v (k - 1 + 1) count)
  behind l e = (
    omega (arith, inv.within),
    rw (e.0, e.1) (subst (λ (m : ℕ). BelowCounted w m (rows_forest w m n)) (let q : k ≡ k - 1 + 1 = omega arith in q) inv.counted),
  )

  next :
      0 < k →
      {v : List Row} {count e : ℕ} →
      (v ≡ w) × (count ≡ n) →
      ChildrenEnd v (k - 1) count e →
      Counting w₀ n (k - 1) (set w (k - 1) (with_below (row_in w (k - 1)) (e - (k - 1) - 1)))
  next l {v} {count} {e} q x =
      let m = k - 1 in
      let at : suc m ≡ k = omega arith in
      let c = rw (q.0, q.1) at x in
      let fits : n ≤ length w = omega (arith, inv.fits, inv.long) in
      let put : set w m (with_below (row_in w m) (e - suc m)) ≡ set w m (with_below (row_in w m) (e - m - 1)) =
      ap (λ (b : ℕ). set w m (with_below (row_in w m) b)) (let z : e - suc m ≡ e - m - 1 = omega arith in z) in
      subst (Counting w₀ n m) put
      (record {
        fits = inv.fits;
        small = inv.small;
        within = omega (arith, inv.within);
        long = length-set w m (with_below (row_in w m) (e - suc m)) ∙ inv.long;
        same = λ j. kept fits c j ∙ inv.same j;
        counted = one_more fits c (subst (λ (x : ℕ). BelowCounted w x (rows_forest w x n)) (sym at) inv.counted);
      })

  done : k ≤ 0 → BelowPut w₀ n w
  done l =
      record {
        long = inv.long;
        same = inv.same;
        counted =
            subst (λ (m : ℕ). BelowCounted w m (rows_forest w m n)) (let e : k ≡ 0 = omega arith in e) inv.counted;
      }

pub loop-row-init : goal.loop-row-init
loop-row-init c = start _ _ c.requires

pub end_of-end-requires : goal.end_of-end-requires
end_of-end-requires c = behind c.loop-row.invariant c.loop-row-test.true c.new.ensures

pub loop-row-preserved : goal.loop-row-preserved
loop-row-preserved c = next c.loop-row.invariant c.loop-row-test.true c.new.ensures c.end_of-end.ensures

pub returns : goal.returns
returns c = search done
