-- Laws of the sums of a subset: from one number to the next, and none larger than the sum of all.
-- Assumes nothing.
use Prim.Native.Nat.{ℕ, suc, ◌+◌, ◌*◌, ◌-◌, ◌/◌, ◌%◌, ◌^◌, ◌≤◌, ◌<◌}
use mathlib.Core.Path.{◌≡◌, sym, ap, ◌∙◌}
use mathlib.Core.Bool.{Bool, true, false}
use mathlib.Core.List.{List, [], ◌∷◌, ◌++◌}
use native.Mathlib.Nat.{pow-suc}
use native.Mathlib.Omega.{arith}
use lib.Dec.{eqb}
use lib.ListN.{length}
use borrow.Author.Tests.{eq-eqb}
use Rattle.definition.specs.declared.TheConstants.{LARGEST, MOST_WEIGHT}
use Rattle.std.specs.Prelude.{if◌then◌else◌}
use Rattle.definition.specs.Extract.{WeightedItem, bytes_of, weight_of, chosen}
use Rattle.extract.specs.declared.subsets.Sums.{Sums}
use Rattle.extract.specs.declared.subsets.WeightedItem.{WeightedItem as Held}
use Rattle.extract.specs.Sums.{listed, SumsAre, Weighable}

-- ---------------------------------------------------------------- no larger than the sum of all

bytes-bound : (m : ℕ) (is : List WeightedItem) → bytes_of (chosen m is) ≤ bytes_of is
unfolding chosen
bytes-bound m [] = omega arith
bytes-bound m (i ∷ is) = go (eqb (m % 2) 1) (bytes-bound (m / 2) is)
  where
    go :
        (b : Bool) → bytes_of (chosen (m / 2) is) ≤ bytes_of is →
        bytes_of ((if b then i ∷ [] else []) ++ chosen (m / 2) is) ≤ i.width + bytes_of is
    go true h = omega arith
    go false h = omega arith

weight-bound : (m : ℕ) (is : List WeightedItem) → weight_of (chosen m is) ≤ weight_of is
unfolding chosen
weight-bound m [] = omega arith
weight-bound m (i ∷ is) = go (eqb (m % 2) 1) (weight-bound (m / 2) is)
  where
    go :
        (b : Bool) → weight_of (chosen (m / 2) is) ≤ weight_of is →
        weight_of ((if b then i ∷ [] else []) ++ chosen (m / 2) is) ≤ i.weight + weight_of is
    go true h = omega arith
    go false h = omega arith

module _ {hs : List Held} (are : Weighable hs) {number : ℕ} {s : Sums} (sums : SumsAre hs number s) where
  pub width_fits : s.width ≤ 16 * LARGEST
  width_fits = omega (arith, sums.width, bytes-bound number (listed hs), are.narrow)

  pub weight-fits : s.weight ≤ 16 * MOST_WEIGHT
  weight-fits = omega (arith, sums.weight, weight-bound number (listed hs), are.light)

-- ---------------------------------------------------------------- from one number to the next

module _ (m : ℕ) (i : WeightedItem) (is : List WeightedItem) where
  -- an odd number has the first item, and the next one has not
  odd-now : m % 2 ≡ 1 → chosen m (i ∷ is) ≡ i ∷ chosen (m / 2) is
  unfolding chosen
  odd-now h = rw (eq-eqb (m % 2) 1 h)

  odd-next : m % 2 ≡ 1 → chosen (suc m) (i ∷ is) ≡ chosen (suc (m / 2)) is
  unfolding chosen
  odd-next h =
      let e : suc m % 2 ≡ 0 = omega arith in
      let half : suc m / 2 ≡ suc (m / 2) = omega arith in
      rw (e, half)

  -- the next one of an even number has the first item too
  even-next : m % 2 ≡ 0 → chosen (suc m) (i ∷ is) ≡ i ∷ chosen m (i ∷ is)
  unfolding chosen
  even-next h =
      let e : suc m % 2 ≡ 1 = omega arith in
      let half : suc m / 2 ≡ m / 2 = omega arith in
      rw (e, half, h)

-- where the first items have left: what is left of the number, of the items, and of the sums
pub record Leaving (all : List Held) (number : ℕ) (s : Sums) (m : ℕ) (hs : List Held) : Type 0 where
  pub below : suc m < 2 ^ length hs
  pub same : chosen (suc number) (listed all) ≡ chosen (suc m) (listed hs)
  pub now-are : SumsAre hs m s

module _ {all : List Held} {number : ℕ} {s : Sums} {m : ℕ} {hs : List Held} (l : Leaving all number s m hs) where
  -- while something is left of the number, an item is
  pub none_left : hs ≡ [] → ⊥
  none_left e =
      let z : suc m < 2 ^ 0 = rw e at l.below in
      absurd (let y : ◌≡◌ {A = ℕ} 0 1 = omega arith in omega arith)

  -- the next item
  module _ {h : Held} {later : List Held} (next : hs ≡ h ∷ later) where
    abbrev i : WeightedItem
    i = record { width = h.width; weight = h.weight }

    module _ (uneven : m % 2 ≡ 0 → ⊥) where
      odd : m % 2 ≡ 1
      odd = omega (arith, uneven)

      has : chosen m (listed hs) ≡ i ∷ chosen (m / 2) (listed later)
      has = ap (λ x. chosen m (listed x)) next ∙ odd-now m i (listed later) odd

      -- no difference is below 0
      pub width-falls : h.width ≤ s.width
      width-falls = omega (arith, l.now-are.width, ap bytes_of has)

      pub weight-falls : h.weight ≤ s.weight
      weight-falls = omega (arith, l.now-are.weight, ap weight_of has)

      pub leaving-goes-on :
          Leaving all number (record { width = s.width - h.width; weight = s.weight - h.weight }) (m / 2) later
      leaving-goes-on =
          let z : suc m < 2 ^ suc (length later) = rw (ap length next) at l.below in
          record {
            below = omega (arith, pow-suc 2 (length later));
            same = l.same ∙ ap (λ x. chosen (suc m) (listed x)) next ∙ odd-next m i (listed later) odd;
            now-are =
                record {
                  width = omega (arith, l.now-are.width, ap bytes_of has);
                  weight = omega (arith, l.now-are.weight, ap weight_of has);
                };
          }

    pub leaving-ends :
        m % 2 ≡ 0 → SumsAre all (suc number) (record { width = s.width + h.width; weight = s.weight + h.weight })
    leaving-ends even =
        let more : chosen (suc number) (listed all) ≡ i ∷ chosen m (listed hs) =
        l.same
        ∙ ap (λ x. chosen (suc m) (listed x)) next
        ∙ even-next m i (listed later) even
        ∙ ap (λ x. i ∷ chosen m (listed x)) (sym next) in
        record {
          width = omega (arith, ap bytes_of more, l.now-are.width);
          weight = omega (arith, ap weight_of more, l.now-are.weight);
        }
