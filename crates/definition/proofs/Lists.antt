-- Small facts on numbers and lists that many proofs cite: an order decided, parts of a list.
-- Assumes nothing.
use Prim.Native.Nat.{ℕ, zero, suc, ◌+◌, ◌-◌, ◌≤◌, ◌<◌}
use mathlib.Core.Path.{◌≡◌, refl, ◌∙◌, ap}
use mathlib.Core.Bool.{Bool, true, false}
use mathlib.Core.List.{List, [], ◌∷◌, ◌++◌}
use native.Mathlib.Nat.{zero-add, add-zero}
use native.Mathlib.Omega.{arith}
use lib.Dec.{ltb}
use lib.ListN.{length, take, drop, set, length-drop}
use lib.Seq.{take-nil, take_all, sets}
use borrow.Author.Tests.{ltb-true, ltb-false}
-- one of two numbers is the smaller
pub use Rattle.std.proofs.lemmas.Bool.{cases_lt as order}

-- by the two values of a `Bool`
pub by_cases {ℓ} : {P : Type ℓ} (b : Bool) → (b ≡ true → P) → (b ≡ false → P) → P
by_cases true so not_so = so refl
by_cases false so not_so = not_so refl

-- by the two results of a test
pub tested {ℓ} : {P : Type ℓ} (n m : ℕ) → (ltb n m ≡ true → n < m → P) → (ltb n m ≡ false → m ≤ n → P) → P
tested n m less not_less = by_cases (ltb n m) (λ e. less e (ltb-true n m e)) (λ e. not_less e (ltb-false n m e))

-- what `&t[i..]` is
pub rest_part : (t : List ℕ) (i : ℕ) → take (length t - i) (drop i t) ≡ drop i t
rest_part t i = take_all (length t - i) (drop i t) (omega (arith, length-drop i t))

-- the first n after m elements stand among the first m + n
pub take-drop {ℓ} : {A : Type ℓ} (n m : ℕ) (l : List A) → take n (drop m l) ≡ drop m (take (m + n) l)
take-drop n zero l = rw zero-add
take-drop n (suc m) [] = simp take-nil
take-drop n (suc m) (x ∷ l) =
    let e : suc (m + n) ≡ suc m + n = omega arith in
    take-drop n m l ∙ ap (λ (k : ℕ). drop (suc m) (take k (x ∷ l))) e

-- two lists stored one after the other
pub sets-append : (v w out : List ℕ) (k : ℕ) → sets out k (v ++ w) ≡ sets (sets out k v) (k + length v) w
sets-append [] w out k = rw (add-zero k)
sets-append (b ∷ v) w out k =
    let e : suc k + length v ≡ k + suc (length v) = omega arith in
    sets-append v w (set out k b) (suc k) ∙ ap (λ (n : ℕ). sets (sets (set out k b) (suc k) v) n w) e
