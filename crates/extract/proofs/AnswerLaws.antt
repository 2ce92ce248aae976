-- Laws of the answer: what the search found makes the extract, and the checks leave items whose sums are not too large.
-- Assumes nothing.
use Prim.Native.Nat.{ℕ, suc, ◌+◌, ◌*◌, ◌-◌, ◌^◌, ◌≤◌, ◌<◌, min}
use mathlib.Core.Path.{◌≡◌, refl, sym, ◌∙◌, ap}
use mathlib.Core.Bool.{Bool, true, false, ◌&&◌, ◌||◌}
use mathlib.Core.List.{List, [], ◌∷◌}
use native.Mathlib.Omega.{arith}
use lib.Dec.{leb}
use lib.ListN.{length, get_or}
use borrow.Author.Tests.{leb-true, lt-ltb, le-ltb}
use Rattle.std.proofs.lemmas.Bool.{leb-false}
use Rattle.std.proofs.lemmas.Bool.Decides.{nat_tests}
use Rattle.definition.specs.declared.TheConstants.{LARGEST, LEAST_WEIGHT, MOST_WEIGHT}
use Rattle.std.specs.List.{list_any}
use Rattle.std.specs.Prelude.{if◌then◌else◌}
use Rattle.definition.specs.Extract.{WeightedItem, items, misweighed, bytes_of, weight_of, chosen, subsets#, up_from, examined}
use Rattle.definition.specs.Extract.{heaviest, alone, off_by, extract}
use Rattle.definition.proofs.ExtractLaws.{length-up_from, off-all, off_less, alone-heavier}
use Rattle.extract.specs.declared.subsets.Found.{Found}
use Rattle.extract.specs.declared.subsets.WeightedItem.{WeightedItem as Held}
use Rattle.extract.specs.Sums.{listed, outside, Narrow, Weighable, FoundIs}
use Rattle.extract.proofs.ItemLaws.{listed-length}

-- ---------------------------------------------------------------- the answer

-- the best of those looked at, and its weight
abbrev top : ℕ → ℕ → List WeightedItem → ℕ
top limit budget is = heaviest limit is 0 (examined budget is)

abbrev top_weight : ℕ → ℕ → List WeightedItem → ℕ
top_weight limit budget is = weight_of (chosen (top limit budget is) is)

module _
    (budget : ℕ) (hs : List Held) {all count : ℕ} (a : all ≡ 2 ^ length hs) (n : count ≡ min budget all)
  where
    every : all ≡ subsets# (listed hs)
    every = a ∙ ap (λ (k : ℕ). 2 ^ k) (sym (listed-length hs))

    as_many : count ≡ min budget (subsets# (listed hs))
    as_many = n ∙ ap (λ (k : ℕ). min budget k) every

    module _ {limit : ℕ} {f : Found} (found : FoundIs limit count hs f) where
      subset-is : f.subset ≡ top limit budget (listed hs)
      subset-is = found.subset ∙ ap (λ (k : ℕ). heaviest limit (listed hs) 0 (up_from 0 k)) as_many

      weight_is : f.weight ≡ top_weight limit budget (listed hs)
      weight_is = found.weight ∙ ap (λ (k : ℕ). weight_of (chosen k (listed hs))) subset-is

      looked-is : count ≡ length (examined budget (listed hs))
      looked-is = as_many ∙ sym (length-up_from 0 (min budget (subsets# (listed hs))))

      -- what was found is the answer, with how far off it (listed hs)
      answer-is :
          (off : ℕ) →
          off ≡ off_by limit (listed hs) (length (examined budget (listed hs))) (top_weight limit budget (listed hs)) →
          record { subset = f.subset; weight = f.weight; examined = count; off = off }
          ≡ extract limit budget (listed hs)
      answer-is off e = λ i. record { subset = subset-is i; weight = weight_is i; examined = looked-is i; off = e i }

      -- all were looked at
      pub all_seen :
          all ≤ count →
          record { subset = f.subset; weight = f.weight; examined = count; off = 0 }
          ≡ extract limit budget (listed hs)
      all_seen h =
          let whole : subsets# (listed hs) ≤ length (examined budget (listed hs)) =
          omega (arith, every, looked-is) in
          answer-is 0 (sym (off-all limit (listed hs) _ _ whole))

      -- not all were
      module _ {s : ℕ} (e : s ≡ weight_of (alone limit (listed hs))) where
        enough : top_weight limit budget (listed hs) ≤ weight_of (alone limit (listed hs))
        enough = alone-heavier limit (listed hs) (min budget (subsets# (listed hs)))

        pub not-below : f.weight ≤ s
        not-below = omega (arith, weight_is, enough)

        pub some-seen :
            count < all →
            record { subset = f.subset; weight = f.weight; examined = count; off = s - f.weight }
            ≡ extract limit budget (listed hs)
        some-seen h =
            let part : length (examined budget (listed hs)) < subsets# (listed hs) =
            omega (arith, every, looked-is) in
            let less = off_less limit (listed hs) _ _ part enough in
            answer-is (s - f.weight) (omega (arith, weight_is, less))

pub ruleset extract_steps = (not-below, some-seen, all_seen)

-- ---------------------------------------------------------------- the checks

-- some weight is outside its range where the definition says so
pub misweighed-any : (ws : List ℕ) → misweighed ws ≡ list_any outside ws
unfolding misweighed
misweighed-any [] = refl
misweighed-any (w ∷ ws) = go (leb LEAST_WEIGHT w) (leb w MOST_WEIGHT) refl refl (misweighed-any ws)
  where
    go :
        (low high : Bool) → leb LEAST_WEIGHT w ≡ low → leb w MOST_WEIGHT ≡ high → misweighed ws ≡ list_any outside ws →
        (if low && high then misweighed ws else true) ≡ (outside w || list_any outside ws)
    go true true l h ih = rw (le-ltb w LEAST_WEIGHT (leb-true _ _ l), le-ltb MOST_WEIGHT w (leb-true _ _ h)) ih
    go true false l h ih = rw (le-ltb w LEAST_WEIGHT (leb-true _ _ l), lt-ltb MOST_WEIGHT w (leb-false _ _ h)) refl
    go false high l h ih = rw (lt-ltb w LEAST_WEIGHT (leb-false _ _ l)) refl

-- widths that are not too large do not sum up to too much,
narrow-sum :
    (bs ws : List ℕ) → ((i : ℕ) → i < length bs → get_or bs i 0 ≤ LARGEST) → bytes_of (items bs ws) ≤ length bs * LARGEST
narrow-sum [] ws each = omega arith
narrow-sum (b ∷ bs) [] each = omega arith
narrow-sum (b ∷ bs) (w ∷ ws) each =
    omega (arith, each 0 (omega arith), narrow-sum bs ws (λ i h. each (suc i) (omega arith)))

-- and neither do weights in their range
light-sum : (bs ws : List ℕ) → misweighed ws ≡ false → weight_of (items bs ws) ≤ length bs * MOST_WEIGHT
unfolding misweighed
light-sum [] ws h = omega arith
light-sum (b ∷ bs) [] h = omega arith
light-sum (b ∷ bs) (w ∷ ws) h = let ih = light-sum bs ws in go (leb LEAST_WEIGHT w) (leb w MOST_WEIGHT) refl ih h
  where
    go :
        (low high : Bool) →
        leb w MOST_WEIGHT ≡ high →
        (misweighed ws ≡ false → weight_of (items bs ws) ≤ length bs * MOST_WEIGHT) →
        (if low && high then misweighed ws else true) ≡ false →
        w + weight_of (items bs ws) ≤ suc (length bs) * MOST_WEIGHT
    go true true e ih h = omega (arith, leb-true w MOST_WEIGHT e, ih h)
    go true false e ih h = absurd (let z : ◌≡◌ {A = ℕ} 0 1 = cc in omega arith)
    go false high e ih h = absurd (let z : ◌≡◌ {A = ℕ} 0 1 = cc in omega arith)

items-few : (bs ws : List ℕ) → length (items bs ws) ≤ length bs
items-few [] ws = omega arith
items-few (b ∷ bs) [] = omega arith
items-few (b ∷ bs) (w ∷ ws) = omega (arith, items-few bs ws)

-- so the sums are not too large
pub items-weighable :
    (bs ws : List ℕ) {b : Bool} {hs : List Held} →
    Narrow bs → b ≡ list_any outside ws → b ≡ false → listed hs ≡ items bs ws → Weighable hs
items-weighable bs ws {b} {hs} n q e are =
    record {
      few = omega (arith, n.few, items-few bs ws, ap length are, listed-length hs);
      narrow = rw are (omega (arith, n.few, narrow-sum bs ws n.each));
      light = rw are (omega (arith, n.few, light-sum bs ws (misweighed-any ws ∙ sym q ∙ e)));
    }

pub ruleset choose_steps = (nat_tests, misweighed-any, items-weighable)
