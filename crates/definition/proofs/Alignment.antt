-- Facts of alignment: what `fewest` gives is below the alignment, brings the place to a multiple of it, and is the
-- smallest such number; it is the same a multiple of the alignment later. The alignments are 1, 2, 4 and 8, of which
-- each divides the larger ones.
-- Assumes nothing.
use Prim.Native.Nat.{ℕ, ◌+◌, ◌-◌, ◌%◌, ◌≤◌, ◌<◌, ◌∣◌, max}
use mathlib.Core.Path.{◌≡◌, sym, ◌∙◌, ap}
use mathlib.Core.Logic.{◌⊎◌, ⊎_elim}
use native.Mathlib.Omega.{arith}
use native.Mathlib.Nat.{mod-lt, mod-eq_of_lt, mod_self, mod-add-mod, add-mod, mod-mod, mod-one}
use native.Mathlib.Nat.{mod-eq-zero_of_dvd, dvd_of_mod-eq-zero, sub-zero, add-zero}
use Rattle.definition.specs.Basic.{fewest}
use Rattle.definition.specs.Demand.{Fewest}
use Rattle.definition.proofs.Lists.{order}

module _ (w p : ℕ) (pos : 0 < w) where
  at_zero : p % w ≡ 0 → fewest w p ≡ 0
  at_zero e = rw (e, sub-zero) (mod_self w)

  at_some : 0 < p % w → fewest w p ≡ w - p % w
  at_some h = mod-eq_of_lt (omega (arith, mod-lt p pos))

  -- a sum is a multiple only where the rests add up to 0 or to w
  reach-mod : (m : ℕ) → (p % w + m) % w ≡ (p + m) % w
  reach-mod m = mod-add-mod p w m

  too_small : (m : ℕ) → 0 < p % w → m < w - p % w → (p + m) % w ≡ 0 → ⊥
  too_small m h l e =
      let f : (p % w + m) % w ≡ p % w + m = mod-eq_of_lt (omega arith) in
      omega (arith, reach-mod m)

  sum_self : 0 < p % w → (p + (w - p % w)) % w ≡ 0
  sum_self h = sym (reach-mod (w - p % w)) ∙ ap (λ (n : ℕ). n % w) (omega (arith, mod-lt p pos)) ∙ mod_self w

  pub fewest-slack : Fewest w p (fewest w p)
  fewest-slack =
      ⊎_elim
      (λ (h : 0 < p % w).
      rw
      (at_some h)
      (record { small = omega (arith, mod-lt p pos); reaches = sum_self h; least = λ m e. grind (arith, too_small m h) }))
      (λ (z : p % w ≤ 0).
      let none : p % w ≡ 0 = omega arith in
      rw (at_zero none) (record { small = pos; reaches = rw add-zero none; least = λ m e. omega arith }))
      (order 0 (p % w))

  -- two numbers that are the fewest are equal, so that the record says all there is to say
  pub fewest-only : (n : ℕ) → Fewest w p n → n ≡ fewest w p
  fewest-only n f = omega (arith, f.least (fewest w p) fewest-slack.reaches, fewest-slack.least n f.reaches)

-- a multiple of the alignment later
module _ (w p d : ℕ) (h : w ∣ d) where
  pub mod-moved : (p + d) % w ≡ p % w
  mod-moved =
      add-mod p d w
      ∙ ap (λ (x : ℕ). (p % w + x) % w) (mod-eq-zero_of_dvd w h)
      ∙ ap (λ (x : ℕ). x % w) (add-zero (p % w))
      ∙ mod-mod p w

  pub fewest-moved : fewest w (p + d) ≡ fewest w p
  fewest-moved = ap (λ (x : ℕ). (w - x) % w) mod-moved

-- alignment 1 takes none
pub fewest-one : (p : ℕ) → fewest 1 p ≡ 0
fewest-one p = mod-one (1 - p % 1)

-- ---------------------------------------------------------------- the alignments

abbrev pub Aligning : ℕ → Type 0
Aligning w = (w ≡ 1) ⊎ (w ≡ 2) ⊎ (w ≡ 4) ⊎ (w ≡ 8)

pub aligning-positive : (w : ℕ) → Aligning w → 0 < w
aligning-positive w a = grind arith

-- each divides the larger ones
aligning-divides : (w m : ℕ) → Aligning w → Aligning m → w ≤ m → w ∣ m
aligning-divides w m a b l = dvd_of_mod-eq-zero w (grind arith)

pub aligning-max : (w m : ℕ) → Aligning w → Aligning m → Aligning (max w m)
aligning-max w m a b = grind arith

pub divides-left : (w m : ℕ) → Aligning w → Aligning m → w ∣ max w m
divides-left w m a b = aligning-divides w (max w m) a (aligning-max w m a b) (omega arith)

pub divides-right : (w m : ℕ) → Aligning w → Aligning m → m ∣ max w m
divides-right w m a b = aligning-divides m (max w m) b (aligning-max w m a b) (omega arith)

pub divides-8 : (w : ℕ) → Aligning w → w ∣ 8
divides-8 w a = dvd_of_mod-eq-zero w (grind arith)
