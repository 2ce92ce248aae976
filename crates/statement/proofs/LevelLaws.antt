-- Laws of the open levels: how many there are, the innermost, and one more; rows that are stored later leave them
-- alone.
-- Assumes nothing.
use Prim.Native.Nat.{ℕ, zero, suc, ◌+◌, ◌-◌, ◌≤◌, ◌<◌}
use mathlib.Core.Path.{◌≡◌, refl, ap, ap₂, ◌∙◌}
use mathlib.Core.List.{List, [], ◌∷◌}
use native.Mathlib.Numerals.{add-one}
use native.Mathlib.Omega.{arith}
use Rattle.std.specs.Prelude.{Option, None, Some}
use lib.ListN.{length, get_or, set}
use lib.Seq.{get_or-set_same, get_or-set_other}
use Rattle.definition.specs.Tree.{Open, opened, innermost}
use Rattle.definition.specs.Usages.{around}
use Rattle.definition.proofs.ParentLaws.{Fit}
use Rattle.rows.specs.declared.Row.{Row}
use Rattle.rows.specs.Rows.{row_in, row_code}
use Rattle.statement.specs.Levels.{top_down, usage_in, parent_in, usage_around}

module _ (w : List Row) (ls : List ℕ) where
  -- no level, and the innermost of some
  pub down-none : (row : ℕ) → top_down w ls 0 row ≡ []
  unfolding top_down
  down-none row = refl

  pub down-next :
      (n row : ℕ) →
      0 < n →
      top_down w ls n row
      ≡ opened (get_or ls (n - 1) 0) row (usage_in w (row - 1)) ∷ top_down w ls (n - 1) (parent_in w (row - 1))
  unfolding top_down
  down-next n row h = ap (λ (m : ℕ). top_down w ls m row) (let e : n ≡ suc (n - 1) = omega arith in e)

  pub length-down : (n row : ℕ) → length (top_down w ls n row) ≡ n
  unfolding top_down
  length-down zero row = refl
  length-down (suc n) row = ap suc (length-down n (parent_in w (row - 1)))

  -- a level stored after these leaves them alone, and is the innermost
  down-set : (i v n row : ℕ) → n ≤ i → top_down w (set ls i v) n row ≡ top_down w ls n row
  unfolding top_down
  down-set i v zero row h = refl
  down-set i v (suc n) row h =
      ap₂ (λ (x : ℕ) (os : List Open). opened x row (usage_in w (row - 1)) ∷ os)
      (get_or-set_other ls i n v 0 (λ e. omega arith)) (down-set i v n (parent_in w (row - 1)) (omega arith))

  pub down-more :
      (n v k : ℕ) →
      n < length ls →
      top_down w (set ls n v) (n + 1) (suc k) ≡ opened v (suc k) (usage_in w k) ∷ top_down w ls n (parent_in w k)
  unfolding top_down
  down-more n v k h =
      ap (λ (m : ℕ). top_down w (set ls n v) m (suc k)) (add-one n) ∙ more
    where
      here : suc k - 1 ≡ k
      here = omega arith

      more : top_down w (set ls n v) (suc n) (suc k) ≡ opened v (suc k) (usage_in w k) ∷ top_down w ls n (parent_in w k)
      more =
          ap₂ (λ (x : ℕ) (os : List Open). opened x (suc k) (usage_in w (suc k - 1)) ∷ os) (get_or-set_same ls n v 0 h)
          (down-set n v n (parent_in w (suc k - 1)) (omega arith))
          ∙ ap (λ (j : ℕ). opened v (suc k) (usage_in w j) ∷ top_down w ls n (parent_in w j)) here

-- a row stored after those that are open leaves them alone
pub down-put :
    (w : List Row) (ls : List ℕ) (k : ℕ) (r : Row) (n row : ℕ) →
    Fit k (top_down w ls n row) →
    top_down (set w k r) ls n row ≡ top_down w ls n row
unfolding top_down
down-put w ls k r zero row h = refl
down-put w ls k r (suc n) row h =
    let same : row_in (set w k r) (row - 1) ≡ row_in w (row - 1) =
    get_or-set_other w k (row - 1) r _ (λ e. omega (arith, h.1, h.2)) in
    ap₂ (λ (x : Row) (os : List Open). opened (get_or ls n 0) row x.statement.usage ∷ os) same
    (ap (λ (x : Row). top_down (set w k r) ls n (row_code x.parent)) same ∙ down-put w ls k r n (parent_in w (row - 1)) h.3)

-- the innermost open one has the usage that holds around
pub down-around :
    (w : List Row) (ls : List ℕ) (k n : ℕ) (row : Option ℕ) →
    Fit k (top_down w ls n (row_code row)) →
    row_code row ≡ innermost (top_down w ls n (row_code row)) →
    usage_around w row ≡ around (top_down w ls n (row_code row))
unfolding top_down
down-around w ls k zero None h e = refl
down-around w ls k zero (Some j) h e = absurd (omega arith)
down-around w ls k (suc n) None h e = absurd (omega (arith, h.1))
down-around w ls k (suc n) (Some j) h e = ap (usage_in w) (let same : j ≡ suc j - 1 = omega arith in same)

-- what is one of the first k is one of more
pub fit-more : (k : ℕ) (os : List Open) → Fit k os → Fit (suc k) os
fit-more k [] h = tt
fit-more k (o ∷ os) h = (h.0, h.1, omega (arith, h.2), fit-more k os h.3)
