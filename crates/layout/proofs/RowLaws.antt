-- Laws of the rows as a forest: the statements of a stretch of rows, and the forest of a stretch split into its first
-- item, the item's children and the rest; the run of higher levels over the children of its first row.
-- Assumes nothing.
use Prim.Native.Nat.{ℕ, zero, suc, ◌+◌, ◌-◌, ◌≤◌, ◌<◌}
use mathlib.Core.Path.{◌≡◌, refl, sym, ap, ◌∙◌}
use mathlib.Core.List.{List, [], ◌∷◌}
use native.Mathlib.Nat.{add-zero, sub-zero, zero-sub, suc-sub-suc}
use native.Mathlib.Omega.{arith}
use lib.ListN.{take, drop}
use borrow.Author.Tests.{lt-ltb}
use Rattle.definition.specs.declared.Statement.{Statement}
use Rattle.definition.specs.Tree.{leaf, item, forest, higher}
use Rattle.definition.proofs.Lists.{tested}
use Rattle.definition.proofs.TreeLaws.{forest-none, forest-cons, higher-length, higher-hit}
use Rattle.rows.specs.declared.Row.{Row}
use Rattle.rows.specs.Rows.{statement_at, statements_from}
use Rattle.rows.proofs.RowLaws.{length-statements}
use Rattle.layout.specs.Children.{ChildrenEnd}

-- the statements above m stand first among those above a smaller n
higher-over : (n m : ℕ) → n ≤ m → (ss : List Statement) → higher n ss ≡ higher m ss + higher n (drop (higher m ss) ss)
unfolding higher
higher-over n m h [] = refl
higher-over n m h (s ∷ ss) =
    let more = higher-over n m h ss in
    tested m s.level
    (λ p l. simp (p, lt-ltb n s.level (omega arith)) (omega (arith, more)))
    (λ p _. simp p (omega arith))

module _ (w : List Row) where
  -- the rows a to before b: the first and the rest, or none
  pub stretch-cons : (a b : ℕ) → a < b → statements_from w a (b - a) ≡ statement_at w a ∷ statements_from w (suc a) (b - suc a)
  unfolding statements_from
  stretch-cons a b h = ap (statements_from w a) (let e : b - a ≡ suc (b - suc a) = omega arith in e)

  pub stretch-none : (a b : ℕ) → b ≤ a → statements_from w a (b - a) ≡ []
  unfolding statements_from
  stretch-none a b h = ap (statements_from w a) (let e : b - a ≡ 0 = omega arith in e)

  take-statements : (a m n : ℕ) → m ≤ n → take m (statements_from w a n) ≡ statements_from w a m
  unfolding statements_from
  take-statements a zero n h = refl
  take-statements a (suc m) zero h = absurd (omega arith)
  take-statements a (suc m) (suc n) h = ap (λ (l : List Statement). statement_at w a ∷ l) (take-statements (suc a) m n (omega arith))

  drop-statements : (a m n : ℕ) → drop m (statements_from w a n) ≡ statements_from w (a + m) (n - m)
  unfolding statements_from
  drop-statements a zero n = simp (add-zero, sub-zero)
  drop-statements a (suc m) zero = simp zero-sub
  drop-statements a (suc m) (suc n) =
      drop-statements (suc a) m n ∙ cc (suc-sub-suc n m, (let e : suc a + m ≡ a + suc m = omega arith in e))

  pub forest-empty : (a b : ℕ) → b ≤ a → forest (statements_from w a (b - a)) ≡ leaf
  forest-empty a b h = ap forest (stretch-none a b h) ∙ forest-none

  -- a row's children end somewhere
  pub children-end : (i to : ℕ) → i < to → ChildrenEnd w i to (suc i + higher (statement_at w i).level (statements_from w (suc i) (to - suc i)))
  children-end i to h =
      let rest = statements_from w (suc i) (to - suc i) in
      let most : higher (statement_at w i).level rest ≤ to - suc i = rw length-statements at (higher-length (statement_at w i).level rest) in
      record { low = omega arith; high = omega arith; is = refl }

  -- the rows behind a row's children
  pub stretch-after :
      (i to j : ℕ) →
      ChildrenEnd w i to j →
      let rest = statements_from w (suc i) (to - suc i) in
      drop (higher (statement_at w i).level rest) rest ≡ statements_from w j (to - j)
  stretch-after i to j h =
      let n = higher (statement_at w i).level (statements_from w (suc i) (to - suc i)) in
      drop-statements (suc i) n (to - suc i) ∙ cc (h.is, (let e : to - suc i - n ≡ to - j = omega (arith, h.is) in e))

  -- a run of higher levels that takes row i takes its children, and goes on behind them
  pub higher-past :
      (n i to j : ℕ) →
      n < (statement_at w i).level →
      ChildrenEnd w i to j →
      i + higher n (statements_from w i (to - i)) ≡ j + higher n (statements_from w j (to - j))
  higher-past n i to j l h =
      let m = (statement_at w i).level in
      let rest = statements_from w (suc i) (to - suc i) in
      let first : higher n (statements_from w i (to - i)) ≡ suc (higher n rest) =
      ap (higher n) (stretch-cons i to (omega (arith, h.low, h.high))) ∙ higher-hit n (statement_at w i) rest l in
      let more =
      higher-over n m (omega arith) rest
      ∙ ap (λ (ss : List Statement). higher m rest + higher n ss) (stretch-after i to j h) in
      omega (arith, first, more, h.is)

  -- the forest of the rows i to before `to`: row i, its children up to j, and the rest
  pub forest-split :
      (i to j : ℕ) →
      ChildrenEnd w i to j →
      forest (statements_from w i (to - i)) ≡ item (statement_at w i) (forest (statements_from w (suc i) (j - suc i))) (forest (statements_from w j (to - j)))
  forest-split i to j h =
      let rest = statements_from w (suc i) (to - suc i) in
      let n = higher (statement_at w i).level rest in
      let most : n ≤ to - suc i = rw length-statements at (higher-length (statement_at w i).level rest) in
      let many : j - suc i ≡ n = omega (arith, h.is) in
      let kids : take n rest ≡ statements_from w (suc i) (j - suc i) = take-statements (suc i) n (to - suc i) most ∙ ap (statements_from w (suc i)) (sym many) in
      ap forest (stretch-cons i to (omega (arith, h.low, h.high)))
      ∙ forest-cons (statement_at w i) rest
      ∙ cc (kids, stretch-after i to j h)
