-- Laws of the search: one law for each way through the search, and through the sum of the items that fit alone.
-- Assumes nothing.
use Prim.Native.Nat.{ℕ, suc, ◌+◌, ◌*◌, ◌-◌, ◌^◌, ◌≤◌, ◌<◌}
use mathlib.Core.Path.{◌≡◌, refl, sym, ◌∙◌, ap, subst}
use mathlib.Core.Bool.{Bool, true, false, ◌&&◌}
use mathlib.Core.List.{List, [], ◌∷◌, ◌++◌}
use native.Mathlib.Nat.{sub-zero}
use native.Mathlib.Omega.{arith}
use lib.Dec.{leb}
use lib.ListN.{length}
use borrow.Author.Tests.{lt-ltb, le-ltb, le-leb, lt-leb}
use Rattle.definition.specs.declared.TheConstants.{MOST_WEIGHT}
use Rattle.std.specs.Prelude.{if◌then◌else◌}
use Rattle.definition.specs.Extract.{WeightedItem, bytes_of, weight_of}
use Rattle.definition.specs.Extract.{chosen, up_from, heavier, heaviest, alone}
use Rattle.extract.specs.declared.subsets.Sums.{Sums}
use Rattle.extract.specs.declared.subsets.WeightedItem.{WeightedItem as Held}
use Rattle.extract.specs.Sums.{listed, SumsAre, Weighable, HasSubsets, FoundIs}

-- ---------------------------------------------------------------- the items of a subset

-- number 0 has none
none-chosen : (is : List WeightedItem) → chosen 0 is ≡ []
unfolding chosen
none-chosen [] = refl
none-chosen (i ∷ is) = none-chosen is

-- ---------------------------------------------------------------- the search

module _ (limit : ℕ) (is : List WeightedItem) (best number : ℕ) where
  -- a subset that does not fit, one that is no heavier, and one that is
  pass-wide : limit < bytes_of (chosen number is) → heavier limit is best number ≡ best
  pass-wide h = rw (lt-leb (bytes_of (chosen number is)) limit h)

  pass-light : weight_of (chosen number is) ≤ weight_of (chosen best is) → heavier limit is best number ≡ best
  pass-light h =
      rw (le-ltb (weight_of (chosen best is)) (weight_of (chosen number is)) h)
      (go (leb (bytes_of (chosen number is)) limit))
    where
      go : (t : Bool) → (if t && false then number else best) ≡ best
      go true = refl
      go false = refl

  take-heavy :
      bytes_of (chosen number is) ≤ limit →
      weight_of (chosen best is) < weight_of (chosen number is) →
      heavier limit is best number ≡ number
  take-heavy f h =
      rw (
        le-leb (bytes_of (chosen number is)) limit f,
        lt-ltb (weight_of (chosen best is)) (weight_of (chosen number is)) h,
      )

-- the next number of those to look at
numbers-next : (k n : ℕ) → k < n → up_from k (n - k) ≡ k ∷ up_from (k + 1) (n - (k + 1))
unfolding up_from
numbers-next k n h =
    let e : n - k ≡ suc (n - (k + 1)) = omega arith in
    let one : suc k ≡ k + 1 = omega arith in
    rw e (ap (λ (j : ℕ). k ∷ up_from j (n - (k + 1))) one)

numbers-end : (k n : ℕ) → n ≤ k → up_from k (n - k) ≡ []
unfolding up_from
numbers-end k n h = let e : n - k ≡ 0 = omega arith in rw e

module _ (limit : ℕ) (is : List WeightedItem) where
  -- one more is looked at
  look : (best k n : ℕ) → k < n →
      heaviest limit is best (up_from k (n - k))
      ≡ heaviest limit is (heavier limit is best k) (up_from (k + 1) (n - (k + 1)))
  unfolding heaviest
  look best k n h = ap (λ (l : List ℕ). heaviest limit is best l) (numbers-next k n h)

  -- the empty subset is the best of itself
  look-first : (n : ℕ) → 0 < n → heaviest limit is 0 (up_from 0 n) ≡ heaviest limit is 0 (up_from 1 (n - 1))
  look-first n h =
      rw sub-zero at (look 0 0 n h)
      ∙ ap (λ (b : ℕ). heaviest limit is b (up_from 1 (n - 1))) (pass-light limit is 0 0 (omega arith))

-- so many subsets were looked at: the sums of the last one, and the best so far, with its weight
pub record Looking (hs : List Held) (limit count best weighs width weight looked : ℕ) : Type 0 where
  pub low : 0 < looked
  pub high : looked ≤ count
  pub few : count ≤ 2 ^ length hs
  pub last-is : SumsAre hs (looked - 1) (record { width = width; weight = weight })
  pub best-is : weighs ≡ weight_of (chosen best (listed hs))
  pub same : heaviest limit (listed hs) 0 (up_from 0 count) ≡ heaviest limit (listed hs) best (up_from looked (count - looked))

pub looking-starts : {hs : List Held} {limit count : ℕ} → HasSubsets hs count → Looking hs limit count 0 0 0 0 1
looking-starts {hs} {limit} {count} c =
    record {
      low = omega arith;
      high = omega arith;
      few = c.few;
      last-is =
          record { width = sym (ap bytes_of (none-chosen (listed hs))); weight = sym (ap weight_of (none-chosen (listed hs))) };
      best-is = sym (ap weight_of (none-chosen (listed hs)));
      same = look-first limit (listed hs) count c.some;
    }

module _
    {hs : List Held} {limit count best weighs width weight looked : ℕ}
    (l : Looking hs limit count best weighs width weight looked)
  where
    module _ (more : looked < count) {s : Sums} (is-next : SumsAre hs (suc (looked - 1)) s) where
      sums-are : SumsAre hs looked s
      sums-are =
          let e : suc (looked - 1) ≡ looked = omega (arith, l.low) in
          subst (λ (k : ℕ). SumsAre hs k s) e is-next

      -- the search goes on with the better one
      goes_on :
          (best' weighs' : ℕ) →
          weighs' ≡ weight_of (chosen best' (listed hs)) →
          heavier limit (listed hs) best looked ≡ best' →
          Looking hs limit count best' weighs' s.width s.weight (looked + 1)
      goes_on best' weighs' w e =
          let n : looked ≡ looked + 1 - 1 = omega arith in
          record {
            low = omega arith;
            high = omega arith;
            few = l.few;
            last-is = subst (λ (k : ℕ). SumsAre hs k s) n sums-are;
            best-is = w;
            same =
                l.same
                ∙ look limit (listed hs) best looked count more
                ∙ ap (λ (b : ℕ). heaviest limit (listed hs) b (up_from (looked + 1) (count - (looked + 1)))) e;
          }

      -- past one that does not fit or (listed hs) no heavier,
      pub passes-wide : limit < s.width → Looking hs limit count best weighs s.width s.weight (looked + 1)
      passes-wide h =
          goes_on best weighs l.best-is (pass-wide limit (listed hs) best looked (omega (arith, sums-are.width)))

      pub passes-light : s.weight ≤ weighs → Looking hs limit count best weighs s.width s.weight (looked + 1)
      passes-light h =
          goes_on best weighs l.best-is
          (pass-light limit (listed hs) best looked (omega (arith, sums-are.weight, l.best-is)))

      -- and to one that fits and (listed hs) heavier
      pub takes-heavy :
          s.width ≤ limit → weighs < s.weight → Looking hs limit count looked s.weight s.width s.weight (looked + 1)
      takes-heavy f h =
          goes_on looked s.weight sums-are.weight
          (take-heavy limit (listed hs) best looked (omega (arith, sums-are.width)) (omega (arith, sums-are.weight, l.best-is)))

    pub looking-ends : count ≤ looked → FoundIs limit count hs (record { subset = best; weight = weighs })
    unfolding heaviest
    looking-ends h =
        record {
          subset = sym (l.same ∙ ap (λ (l : List ℕ). heaviest limit (listed hs) best l) (numbers-end looked count h));
          weight = l.best-is;
        }

-- ---------------------------------------------------------------- the items that fit alone

-- they weigh no more than all
pub alone-bound : (limit : ℕ) (is : List WeightedItem) → weight_of (alone limit is) ≤ weight_of is
unfolding alone
alone-bound limit [] = omega arith
alone-bound limit (i ∷ is) = go (leb i.width limit) (alone-bound limit is)
  where
    go :
        (t : Bool) →
        weight_of (alone limit is) ≤ weight_of is →
        weight_of ((if t then i ∷ [] else []) ++ alone limit is) ≤ i.weight + weight_of is
    go true h = omega arith
    go false h = omega arith

-- what is summed up, and the items that are left
pub record Summing (all : List Held) (limit s : ℕ) (hs : List Held) : Type 0 where
  pub same : weight_of (alone limit (listed all)) ≡ s + weight_of (alone limit (listed hs))

module _ {all : List Held} {limit s : ℕ} {hs : List Held} (l : Summing all limit s hs) where
  pub sum_fits : Weighable all → s ≤ 16 * MOST_WEIGHT
  sum_fits are = omega (arith, l.same, alone-bound limit (listed all), are.light)

  pub summing-ends : hs ≡ [] → s ≡ weight_of (alone limit (listed all))
  unfolding alone
  summing-ends e = omega (arith, l.same, ap (λ x. weight_of (alone limit (listed x))) e)

  -- the next item
  module _ {h : Held} {later : List Held} (next : hs ≡ h ∷ later) where
    -- one that does not fit alone is left out
    pub sums-not : limit < h.width → Summing all limit s later
    unfolding alone
    sums-not n = record { same = l.same ∙ rw (next, lt-leb h.width limit n) refl }

    -- and one that does is counted
    pub sums-too : h.width ≤ limit → Summing all limit (s + h.weight) later
    unfolding alone
    sums-too f = record { same = l.same ∙ rw (next, le-leb h.width limit f) (omega arith) }
