-- What linked rows name. Among the rows from one on, the first that names a base is the first later sibling that does,
-- so the chain that the rows make from the last one back is the one along each list.
-- Assumes nothing.
use Prim.Native.Nat.{ℕ, zero, suc, ◌+◌, ◌-◌, ◌≤◌, ◌<◌}
use mathlib.Core.Path.{◌≡◌, refl, sym, ap, ap₂, subst, ◌∙◌}
use mathlib.Core.Bool.{Bool, true, false}
use mathlib.Core.List.{List}
use mathlib.Core.Logic.{⊎_elim}
use native.Mathlib.Omega.{arith}
use lib.Dec.{eqb}
use borrow.Author.Tests.{lt-ltb, le-ltb, ne_eqb}
use Rattle.definition.specs.declared.Span.{Span}
use Rattle.std.specs.Prelude.{if◌then◌else◌}
use Rattle.definition.specs.Basic.{is_given}
use Rattle.definition.specs.Tree.{Forest, leaf, item}
use Rattle.definition.specs.Fold.{same_name}
use Rattle.definition.specs.Owner.{size}
use Rattle.definition.proofs.Lists.{order}
use Rattle.rows.specs.declared.Row.{Row}
use Rattle.rows.specs.Rows.{row_code, row_in}
use Rattle.layout.specs.Targets.{is_target}
use Rattle.layout.specs.Places.{RowLinked, Linked}
use Rattle.layout.proofs.SearchLaws.{if-most, row-most, back, back_none, back_step}
use Rattle.definition.proofs.WordLaws.{never}
use Rattle.layout.specs.Shown.{union_of, next_in, Marked}
use Rattle.layout.proofs.BaseLaws.{if-not}
use Rattle.layout.specs.Marks.{first_from}

-- ---------------------------------------------------------------- the first row that names a base

module _ (w : List Row) (u : ℕ) where
  -- rows of which none names it
  first-skip : (k m n : ℕ) → first_from w u k m ≡ 0 → first_from w u k (m + n) ≡ first_from w u (k + m) n
  unfolding first_from
  first-skip k zero n h = ap₂ (first_from w u) (let e : k ≡ k + 0 = omega arith in e) (let e : 0 + n ≡ n = omega arith in e)
  first-skip k (suc m) n h =
      let on = first-skip (suc k) m n in
      ap (first_from w u k) (let e : suc m + n ≡ suc (m + n) = omega arith in e)
      ∙ go (eqb (row_code (row_in w k).place.base) u) h on
      ∙ ap (λ (x : ℕ). first_from w u x n) (let e : suc k + m ≡ k + suc m = omega arith in e)
    where
      go :
          (b : Bool) →
          (if b then suc k else first_from w u (suc k) m) ≡ 0 →
          (first_from w u (suc k) m ≡ 0 → first_from w u (suc k) (m + n) ≡ first_from w u (suc k + m) n) →
          (if b then suc k else first_from w u (suc k) (m + n)) ≡ first_from w u (suc k + m) n
      go true h on = absurd (omega arith)
      go false h on = on h

  first-stop : (k m n : ℕ) → first_from w u (k + m) n ≡ 0 → first_from w u k (m + n) ≡ first_from w u k m
  unfolding first_from
  first-stop k zero n h = ap₂ (first_from w u) (let e : k ≡ k + 0 = omega arith in e) (let e : 0 + n ≡ n = omega arith in e) ∙ h
  first-stop k (suc m) n h =
      ap (first_from w u k) (let e : suc m + n ≡ suc (m + n) = omega arith in e)
      ∙ ap (λ (x : ℕ). if eqb (row_code (row_in w k).place.base) u then suc k else x)
      (first-stop (suc k) m n (ap (λ (x : ℕ). first_from w u x n) (let e : suc k + m ≡ k + suc m = omega arith in e) ∙ h))

-- by the rows' bases alone
pub first-same : (w w' : List Row) → ((i : ℕ) → row_code (row_in w i).place.base ≡ row_code (row_in w' i).place.base) → (u k n : ℕ) → first_from w u k n ≡ first_from w' u k n
unfolding first_from
first-same w w' h u k zero = refl
first-same w w' h u k (suc n) = ap₂ (λ (x y : ℕ). if eqb x u then suc k else y) (h k) (first-same w w' h u (suc k) n)

-- ---------------------------------------------------------------- the bases that linked rows name

module _ (t : List ℕ) (w : List Row) where
  -- no row of a list names a base that no search from before the list finds
  none-forest :
      (f : Forest) (u k last : ℕ) →
      Linked t w k last f →
      last ≤ k →
      0 < u →
      u ≤ k →
      ((target : Span) → back t w target last ≡ u → ⊥) →
      first_from w u k (size f) ≡ 0
  unfolding first_from
  none-forest leaf u k last x l p h apart = refl
  none-forest (item s kids later) u k last x l p h apart =
      let r = (row_in w k).statement.clauses.redefines in
      let own : eqb (row_code (row_in w k).place.base) u ≡ false = ne_eqb (row_code (row_in w k).place.base) u (λ e. not-given (is_given r) (apart r) (sym x.0.base ∙ e)) in
      let inner = none-forest kids u (suc k) 0 x.1 (omega arith) p (omega arith) (λ target e. omega (arith, back_none t w target)) in
      let rest =
      none-forest later u (suc k + size kids) (suc k) x.2 (omega arith) p (omega arith)
      (λ target e. if-not (is_target t target true w k) (λ q. omega arith) (λ _. apart target) (sym (back_step t w target k last x.0.before l) ∙ e)) in
      ap (λ (b : Bool). if b then suc k else first_from w u (suc k) (size kids + size later)) own
      ∙ first-skip w u (suc k) (size kids) (size later) inner
      ∙ rest
    where
      not-given : (b : Bool) {x : ℕ} → (x ≡ u → ⊥) → (if b then x else 0) ≡ u → ⊥
      not-given true q e = q e
      not-given false q e = omega arith

  base-most : {k last : ℕ} {kids : Forest} → RowLinked t w k last kids → last ≤ k → row_code (row_in w k).place.base ≤ k
  base-most {k} {last} x l =
      let r = (row_in w k).statement.clauses.redefines in
      omega (arith, x.base, if-most (is_given r) (row-most t w r true last last) (let z : 0 ≤ last = omega arith in z))

  -- b names no base, or one after the row `low` that names none
  abbrev Bare : ℕ → ℕ → Type 0
  Bare low b = 0 < b → (low < b) × (row_code (row_in w (b - 1)).place.base ≡ 0)

  -- each row of a list, and of those below it, names an earlier row so, where a search from before the list finds none
  -- but such
  bases-forest :
      (f : Forest) (k last low : ℕ) →
      Linked t w k last f →
      last ≤ k →
      low ≤ k →
      ((target : Span) → Bare low (back t w target last)) →
      (i : ℕ) →
      k ≤ i →
      i < k + size f →
      (row_code (row_in w i).place.base ≤ i) × Bare low (row_code (row_in w i).place.base)
  bases-forest leaf k last low x l b fine i p q = absurd (omega arith)
  bases-forest (item s kids later) k last low x l b fine i p q =
      let inner = bases-forest kids (suc k) 0 low x.1 (omega arith) (omega arith) (λ target z. absurd (omega (arith, back_none t w target))) i in
      let rest =
      bases-forest later (suc k + size kids) (suc k) low x.2 (omega arith) (omega arith)
      (λ target. subst (Bare low) (sym (back_step t w target k last x.0.before l)) (next-bare (is_target t target true w k) (target-bare target) (fine target))) i in
      ⊎_elim
      (λ (more : k < i). ⊎_elim (λ (y : i < suc k + size kids). inner (omega arith) y) (λ (y : suc k + size kids ≤ i). rest y (omega arith)) (order i (suc k + size kids)))
      (λ (less : i ≤ k). subst (λ (n : ℕ). (row_code (row_in w n).place.base ≤ n) × Bare low (row_code (row_in w n).place.base)) (let e : k ≡ i = omega arith in e) own)
      (order k i)
    where
      if-bare : (g : Bool) {n : ℕ} → Bare low n → Bare low (if g then n else 0)
      if-bare true h = h
      if-bare false h = λ z. absurd (omega arith)

      own : (row_code (row_in w k).place.base ≤ k) × Bare low (row_code (row_in w k).place.base)
      own =
          let r = (row_in w k).statement.clauses.redefines in
          (base-most x.0 l, subst (Bare low) (sym x.0.base) (if-bare (is_given r) (fine r)))

      -- a base names none
      target-bare : (target : Span) → is_target t target true w k ≡ true → row_code (row_in w k).place.base ≡ 0
      target-bare target h = go (is_given (row_in w k).statement.clauses.redefines) refl h
        where
          go :
              (g : Bool) →
              is_given (row_in w k).statement.clauses.redefines ≡ g →
              (if g then false else same_name t target (row_in w k).statement.name) ≡ true →
              row_code (row_in w k).place.base ≡ 0
          go true e z = absurd (never z)
          go false e z = x.0.base ∙ ap (λ (g : Bool). if g then back t w (row_in w k).statement.clauses.redefines last else 0) e

      next-bare : (c : Bool) → (c ≡ true → row_code (row_in w k).place.base ≡ 0) → {n : ℕ} → Bare low n → Bare low (if c then suc k else n)
      next-bare true h fine' = λ z. (omega arith, subst (λ (n : ℕ). row_code (row_in w n).place.base ≡ 0) (let e : k ≡ suc k - 1 = omega arith in e) (h refl))
      next-bare false h fine' = fine'

  -- the first row of a list that names a base stands in the list, and not below it
  first-forest : (f : Forest) (u k last : ℕ) → Linked t w k last f → 0 < u → u ≤ k → first_from w u k (size f) ≡ next_in w u k f
  unfolding first_from next_in
  first-forest leaf u k last x p h = refl
  first-forest (item s kids later) u k last x p h =
      let inner = none-forest kids u (suc k) 0 x.1 (omega arith) p (omega arith) (λ target e. omega (arith, back_none t w target)) in
      ap (λ (n : ℕ). if eqb (row_code (row_in w k).place.base) u then suc k else n)
      (first-skip w u (suc k) (size kids) (size later) inner ∙ first-forest later u (suc k + size kids) (suc k) x.2 p (omega arith))

  -- ---------------------------------------------------------------- every row

  -- a row stands in the union of its base, or in its own
  module _ (i : ℕ) where
    union-based : 0 < row_code (row_in w i).place.base → union_of w i ≡ row_code (row_in w i).place.base
    union-based h = ap (λ (b : Bool). if b then row_code (row_in w i).place.base else suc i) (lt-ltb 0 (row_code (row_in w i).place.base) h)

    union-own : row_code (row_in w i).place.base ≤ 0 → union_of w i ≡ suc i
    union-own h = ap (λ (b : Bool). if b then row_code (row_in w i).place.base else suc i) (le-ltb 0 (row_code (row_in w i).place.base) h)

    union-within : (low : ℕ) → low ≤ i → row_code (row_in w i).place.base ≤ i → (0 < row_code (row_in w i).place.base → low < row_code (row_in w i).place.base) → (low < union_of w i) × (union_of w i ≤ suc i)
    union-within low l most least =
        ⊎_elim
        (λ (p : 0 < row_code (row_in w i).place.base). (omega (arith, union-based p, least p), omega (arith, union-based p)))
        (λ (p : row_code (row_in w i).place.base ≤ 0). (omega (arith, union-own p), omega (arith, union-own p)))
        (order 0 (row_code (row_in w i).place.base))

  -- rows that name the first of the rows after them that stands in their union are marked
  marked-forest :
      (f : Forest) (k last : ℕ) →
      Linked t w k last f →
      last ≤ k →
      ((i : ℕ) → k ≤ i → i < k + size f → row_code (row_in w i).place.next ≡ first_from w (union_of w i) (suc i) (k + size f - suc i)) →
      Marked t w k last f
  marked-forest leaf k last x l h = tt
  marked-forest (item s kids later) k last x l h =
      let n = suc k + size kids in
      let below = bases-forest kids (suc k) 0 (suc k) x.1 (omega arith) (omega arith) (λ target z. absurd (omega (arith, back_none t w target))) in
      let inner = marked-forest kids (suc k) 0 x.1 (omega arith) in
      let rest = marked-forest later n (suc k) x.2 (omega arith) in
      let u = union-within k 0 (omega arith) (base-most x.0 l) (λ p. p) in
      let kids-none = none-forest kids (union_of w k) (suc k) 0 x.1 (omega arith) u.0 u.1 (λ target e. omega (arith, back_none t w target, u.0)) in (
        record {
          row = x.0;
          next =
              h k (omega arith) (omega arith)
              ∙ ap (first_from w (union_of w k) (suc k)) (let e : k + size (item s kids later) - suc k ≡ size kids + size later = omega arith in e)
              ∙ first-skip w (union_of w k) (suc k) (size kids) (size later) kids-none
              ∙ first-forest later (union_of w k) n (suc k) x.2 u.0 (omega (arith, u.1));
        },
        inner
            (λ i p q.
            let v = union-within i (suc k) p (below i p q).0 (λ z. ((below i p q).1 z).0) in
            h i (omega arith) (omega arith)
            ∙ ap (first_from w (union_of w i) (suc i)) (let e : k + size (item s kids later) - suc i ≡ n - suc i + size later = omega arith in e)
            ∙ first-stop w (union_of w i) (suc i) (n - suc i) (size later)
            (ap (λ (m : ℕ). first_from w (union_of w i) m (size later)) (let e : suc i + (n - suc i) ≡ n = omega arith in e)
            ∙ none-forest later (union_of w i) n (suc k) x.2 (omega arith) (omega (arith, v.0)) (omega (arith, v.1))
            (λ target e. omega (arith, row-most t w target true (suc k) (suc k), v.0)))),
        rest (λ i p q. h i (omega arith) (omega arith) ∙ ap (first_from w (union_of w i) (suc i)) (let e : k + size (item s kids later) - suc i ≡ n + size later - suc i = omega arith in e)),
      )

  -- of a whole table
  module _ (f : Forest) (k n : ℕ) (x : Linked t w k 0 f) (many : k + size f ≡ n) where
    pub bases-all : (i : ℕ) → k ≤ i → i < n → (row_code (row_in w i).place.base ≤ i) × (0 < row_code (row_in w i).place.base → (k < row_code (row_in w i).place.base) × (row_code (row_in w (row_code (row_in w i).place.base - 1)).place.base ≡ 0))
    bases-all i p q = bases-forest f k 0 k x (omega arith) (omega arith) (λ target z. absurd (omega (arith, back_none t w target))) i p (omega (arith, many))

    pub marked_all : ((i : ℕ) → k ≤ i → i < n → row_code (row_in w i).place.next ≡ first_from w (union_of w i) (suc i) (n - suc i)) → Marked t w k 0 f
    marked_all h =
        marked-forest f k 0 x (omega arith)
        (λ i p q. h i p (omega (arith, many)) ∙ ap (λ (m : ℕ). first_from w (union_of w i) (suc i) (m - suc i)) (sym many))
