-- An extract that fits: of the record's top-level items, each with a weight, the heaviest choice whose reserved widths
-- sum to at most a limit, among as many subsets as a budget lets be looked at.
-- Assumes nothing.
use Rattle.std.specs.Prelude.{ℕ, zero, suc, ◌+◌, ◌-◌, ◌/◌, ◌%◌, ◌^◌, min, Bool, true, false, ◌&&◌, List, [], ◌∷◌, ◌++◌, eqb, leb, ltb, length, if◌then◌else◌}
use Rattle.definition.specs.declared.Extract.{Extract}
use Rattle.definition.specs.declared.TheConstants.{LEAST_WEIGHT, MOST_WEIGHT}
use Rattle.definition.specs.Fold.{Entries, end, entry, reserved}

-- ---------------------------------------------------------------- items

-- an item that may be chosen: its reserved width and its weight
pub record WeightedItem : Type 0 where
  pub width : ℕ
  pub weight : ℕ

-- the reserved widths of top-level items
abbrev pub widths : Entries → List ℕ
widths end = []
widths (entry e members later) = reserved e ∷ widths later

-- items of these widths and weights
abbrev pub items : List ℕ → List ℕ → List WeightedItem
items [] ws = []
items (b ∷ bs) [] = []
items (b ∷ bs) (w ∷ ws) = record { width = b; weight = w } ∷ items bs ws

-- some weight is outside its range, `LEAST_WEIGHT` to `MOST_WEIGHT`
unfoldable pub misweighed : List ℕ → Bool
misweighed [] = false
misweighed (w ∷ weights) = if leb LEAST_WEIGHT w && leb w MOST_WEIGHT then misweighed weights else true

-- the bytes that items take, and what they weigh
abbrev pub bytes_of : List WeightedItem → ℕ
bytes_of [] = 0
bytes_of (i ∷ is) = i.width + bytes_of is

abbrev pub weight_of : List WeightedItem → ℕ
weight_of [] = 0
weight_of (i ∷ is) = i.weight + weight_of is

-- ---------------------------------------------------------------- subsets

-- the items of the subset of that number: subsets are numbered in binary, the first item being the lowest bit
unfoldable pub chosen : ℕ → List WeightedItem → List WeightedItem
chosen number [] = []
chosen number (i ∷ is) = (if eqb (number % 2) 1 then i ∷ [] else []) ++ chosen (number / 2) is

-- how many subsets there are
abbrev pub subsets# : List WeightedItem → ℕ
subsets# is = 2 ^ length is

-- so many numbers, from the first up
unfoldable pub up_from : ℕ → ℕ → List ℕ
up_from first zero = []
up_from first (suc n) = first ∷ up_from (suc first) n

-- the subsets that are looked at, from number 0 up: as many as the budget says, or all
abbrev pub examined : ℕ → List WeightedItem → List ℕ
examined budget is = up_from 0 (min budget (subsets# is))

-- ---------------------------------------------------------------- the heaviest

-- the widths of the subset sum to at most the limit
abbrev pub fits : ℕ → List WeightedItem → ℕ → Bool
fits limit is number = leb (bytes_of (chosen number is)) limit

-- of two subsets the second, where it fits and is heavier
abbrev pub heavier : ℕ → List WeightedItem → ℕ → ℕ → ℕ
heavier limit is best number =
    if fits limit is number && ltb (weight_of (chosen best is)) (weight_of (chosen number is)) then number else best

-- the heaviest fitting one of these, the earliest if equal, after the best so far
unfoldable pub heaviest : ℕ → List WeightedItem → ℕ → List ℕ → ℕ
heaviest limit is best [] = best
heaviest limit is best (number ∷ numbers) = heaviest limit is (heavier limit is best number) numbers

-- the items that fit alone
unfoldable pub alone : ℕ → List WeightedItem → List WeightedItem
alone limit [] = []
alone limit (i ∷ is) = (if leb i.width limit then i ∷ [] else []) ++ alone limit is

-- how far off it is at most: 0 if all were looked at, else the weight of all items that fit alone, less that found
abbrev pub off_by : ℕ → List WeightedItem → ℕ → ℕ → ℕ
off_by limit is looked found = if ltb looked (subsets# is) then weight_of (alone limit is) - found else 0

-- the answer: the heaviest fitting one among those looked at, its weight, their number, and how far off it is at most;
-- number 0, the empty subset, always fits
abbrev pub extract : ℕ → ℕ → List WeightedItem → Extract
extract limit budget is =
    let looked = examined budget is in
    let best = heaviest limit is 0 looked in
    let found = weight_of (chosen best is) in
    record { subset = best; weight = found; examined = length looked; off = off_by limit is (length looked) found }
