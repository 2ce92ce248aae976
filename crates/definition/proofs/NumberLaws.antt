-- Laws of the numbers that words spell: one more digit, a byte that is none, the end, and a number that is too large
-- already.
-- Assumes nothing.
use Prim.Native.Nat.{ℕ, ◌+◌, ◌*◌, ◌-◌, ◌≤◌, ◌<◌}
use mathlib.Core.Path.{◌≡◌, refl}
use mathlib.Core.List.{List, [], ◌∷◌}
use Rattle.std.specs.Prelude.{None, Some}
use native.Mathlib.Omega.{arith}
use lib.ListN.{length, get_or, drop, drop_of_length-le}
use Rattle.definition.specs.Basic.{uppers, digits, numeral, below, number}
use Rattle.std.proofs.lemmas.List.{drop_more}

-- the digits from i on, after n was read
module _ (w : List ℕ) (i n : ℕ) where
  pub digits-end : length w ≤ i → digits n (drop i w) ≡ Some n
  unfolding digits
  digits-end h = rw (drop_of_length-le w h)

  module _ (h : i < length w) where
    pub digits_low : get_or w i 0 < 48 → digits n (drop i w) ≡ None
    unfolding digits
    digits_low l = rw (drop_more w i 0 h) (grind arith)

    pub digits-high : 57 < get_or w i 0 → digits n (drop i w) ≡ None
    unfolding digits
    digits-high l = rw (drop_more w i 0 h) (grind arith)

    pub digits-next :
        48 ≤ get_or w i 0 →
        get_or w i 0 ≤ 57 →
        digits n (drop i w) ≡ digits (n * 10 + (get_or w i 0 - 48)) (drop (i + 1) w)
    unfolding digits
    digits-next l m = rw (drop_more w i 0 h) (grind arith)

-- too large a number stays too large, whatever follows
pub too_large : (limit : ℕ) (bs : List ℕ) (n : ℕ) → limit ≤ n → below limit (digits n bs) ≡ None
unfolding digits
too_large limit [] n h = grind arith
too_large limit (b ∷ bs) n h = grind (arith, too_large limit bs (n * 10 + (b - 48)))

-- at least one digit, from a place on
pub numeral-none : (w : List ℕ) (i : ℕ) → length w ≤ i → numeral (drop i w) ≡ None
numeral-none w i h = rw (drop_of_length-le w h)

pub numeral-some : (w : List ℕ) (i : ℕ) → i < length w → numeral (drop i w) ≡ digits 0 (drop i w)
numeral-some w i h = rw (drop_more w i 0 h)

-- the first byte is a plus, or not
pub number-none : (limit : ℕ) (w : List ℕ) → length w ≡ 0 → number limit w ≡ None
unfolding number
number-none limit w h = grind arith

pub number-plus :
    (limit : ℕ) (w : List ℕ) →
    0 < length w →
    get_or w 0 0 ≡ 43 →
    number limit w ≡ below limit (numeral (drop 1 w))
unfolding number
number-plus limit w h e = grind arith

pub number-plain :
    (limit : ℕ) (w : List ℕ) →
    0 < length w →
    (get_or w 0 0 ≡ 43 → ⊥) →
    number limit w ≡ below limit (numeral (drop 0 w))
unfolding number
number-plain limit w h e = grind arith

pub number-less : (limit : ℕ) (w : List ℕ) {n : ℕ} → number limit w ≡ Some n → n < limit
unfolding number
number-less limit w h = grind arith

-- ---------------------------------------------------------------- letter case

-- letter case does not count in a number
digits-uppers : (bs : List ℕ) (n : ℕ) → digits n (uppers bs) ≡ digits n bs
unfolding digits
digits-uppers [] n = refl
digits-uppers (b ∷ bs) n = grind (arith, digits-uppers bs (n * 10 + (b - 48)))

pub number-uppers : (limit : ℕ) (bs : List ℕ) → number limit (uppers bs) ≡ number limit bs
unfolding number
number-uppers limit bs = grind (arith, digits-uppers)
