-- The items of a search, and the sums of a subset of them.
-- Assumes nothing.
use Rattle.std.specs.Prelude.{ℕ, suc, ◌*◌, ◌^◌, ◌≤◌, ◌<◌, ◌≡◌, Bool, ◌||◌, ltb, List, [], ◌∷◌, length, get_or}
use Rattle.definition.specs.declared.TheConstants.{MOST_ITEMS, LARGEST, LEAST_WEIGHT, MOST_WEIGHT}
use Rattle.definition.specs.Extract.{WeightedItem, bytes_of, weight_of, chosen, heaviest, up_from}
use Rattle.extract.specs.declared.subsets.WeightedItem.{WeightedItem as Held}
use Rattle.extract.specs.declared.subsets.Sums.{Sums}
use Rattle.extract.specs.declared.subsets.Found.{Found}

-- items as they are held, in the definition's words
abbrev pub listed : List Held → List WeightedItem
listed [] = []
listed (h ∷ hs) = record { width = h.width; weight = h.weight } ∷ listed hs

-- a weight is outside its range
abbrev pub outside : ℕ → Bool
outside w = ltb w LEAST_WEIGHT || ltb MOST_WEIGHT w

-- the width and the weight of a subset
pub record SumsAre (hs : List Held) (number : ℕ) (s : Sums) : Type 0 where
  pub width : s.width ≡ bytes_of (chosen number (listed hs))
  pub weight : s.weight ≡ weight_of (chosen number (listed hs))

-- the widths of up to 16 items, none too large
pub record Narrow (bs : List ℕ) : Type 0 where
  pub few : length bs ≤ MOST_ITEMS
  pub each : (i : ℕ) → i < length bs → get_or bs i 0 ≤ LARGEST

-- so many items, with a width and a weight for each
pub record Paired (n : ℕ) (bs ws : List ℕ) : Type 0 where
  pub wide : length bs ≡ n
  pub heavy : length ws ≡ n

-- up to 16 items, and neither sum too large
pub record Weighable (hs : List Held) : Type 0 where
  pub few : length hs ≤ MOST_ITEMS
  pub narrow : bytes_of (listed hs) ≤ 16 * LARGEST
  pub light : weight_of (listed hs) ≤ 16 * MOST_WEIGHT

-- the sums of a subset that is not the last one
pub record HasNext (hs : List Held) (number : ℕ) (s : Sums) : Type 0 where
  pub sums : SumsAre hs number s
  pub more : suc number < 2 ^ length hs

-- so many subsets are there to be looked at, one at least
pub record HasSubsets (hs : List Held) (count : ℕ) : Type 0 where
  pub some : 0 < count
  pub few : count ≤ 2 ^ length hs

-- the best of the first subsets, and its weight
pub record FoundIs (limit count : ℕ) (hs : List Held) (r : Found) : Type 0 where
  pub subset : r.subset ≡ heaviest limit (listed hs) 0 (up_from 0 count)
  pub weight : r.weight ≡ weight_of (chosen r.subset (listed hs))
