-- What an extract is worth, by numbers alone: what a subset's number means, which are looked at, and that the answer is
-- the heaviest of them that fits.
-- Assumes nothing.
use Rattle.std.specs.Prelude.{ℕ, suc, ◌+◌, ◌/◌, ◌%◌, ◌^◌, ◌≤◌, ◌<◌, ◌≡◌, min, false, List, [], ◌∷◌, length, eqb, leb, if◌then◌else◌}
use Rattle.definition.specs.declared.Extract.{Extract}
use Rattle.definition.specs.Basic.{Ok}
use Rattle.definition.specs.Tree.{Forest}
use Rattle.definition.specs.Fold.{Entries, end, entry, reserved}
use Rattle.definition.specs.Record.{layout}
use Rattle.definition.specs.Owner.{overlaid}
use Rattle.definition.specs.Calls.{record_fields}

-- an item that may be chosen: the bytes that it takes, and its weight
pub record Offered : Type 0 where
  pub bytes : ℕ
  pub weight : ℕ

-- the items are the top-level entries of a listing, each with its reserved width and the weight of the same place, from
-- 1 to 1,000
abbrev pub Offers : Entries → List ℕ → List Offered → Type 0
Offers end [] [] = Unit {0}
Offers (entry e members later) (w ∷ weights) (i ∷ is) =
    (i.bytes ≡ reserved e) × (i.weight ≡ w) × (1 ≤ w) × (w ≤ 1000) × Offers later weights is
Offers end [] (i ∷ is) = ⊥
Offers end (w ∷ weights) is = ⊥
Offers (entry e members later) [] is = ⊥
Offers (entry e members later) (w ∷ weights) [] = ⊥

-- of the items whose bits are set in n, the sum of this: the first item's bit is bit k, item i is in the subset if and
-- only if bit i is set
abbrev pub taken : (Offered → ℕ) → ℕ → ℕ → List Offered → ℕ
taken what n k [] = 0
taken what n k (i ∷ is) = (if eqb (n / 2 ^ k % 2) 1 then what i else 0) + taken what n (suc k) is

abbrev pub bytes : ℕ → List Offered → ℕ
bytes n is = taken (λ i. i.bytes) n 0 is

abbrev pub weight : ℕ → List Offered → ℕ
weight n is = taken (λ i. i.weight) n 0 is

-- what all items weigh that fit alone
abbrev pub weight-alone : ℕ → List Offered → ℕ
weight-alone limit [] = 0
weight-alone limit (i ∷ is) = (if leb i.bytes limit then i.weight else 0) + weight-alone limit is

-- what holds of every extract that is not refused
pub record Heaviest (text : List ℕ) (work : ℕ) (weights : List ℕ) (limit budget : ℕ) (a : Extract) : Type 0 where
  -- the fields of the record and the entries of its listing, without REDEFINES and DEPENDING ON,
  pub of : Forest
  pub shown : Entries
  pub read : record_fields text work ≡ Ok of
  pub laid_out : layout text of ≡ Ok shown
  pub plain : overlaid of ≡ false
  -- 16 items at most
  pub items : List Offered
  pub offered : Offers shown weights items
  pub few : length items ≤ 16
  -- the smaller of the budget and the number of subsets were looked at, from 0 up, and not none
  pub looked : a.examined ≡ min budget (2 ^ length items)
  pub some : 0 < a.examined
  -- the answer is one of them, and fits;
  pub seen : a.subset < a.examined
  pub fits : bytes a.subset items ≤ limit
  pub weighs : a.weight ≡ weight a.subset items
  -- no other that fits is heavier, nor as heavy and earlier
  pub heaviest : (n : ℕ) → n < a.examined → bytes n items ≤ limit → weight n items ≤ a.weight
  pub earliest : (n : ℕ) → n < a.examined → bytes n items ≤ limit → weight n items ≡ a.weight → a.subset ≤ n
  -- no subset at all that fits outweighs it by more than the answer says: by nothing with all looked at, and else all
  -- items that fit alone weigh just so much more
  pub bound : (n : ℕ) → n < 2 ^ length items → bytes n items ≤ limit → weight n items ≤ a.weight + a.off
  pub all : 2 ^ length items ≤ budget → a.off ≡ 0
  pub less : budget < 2 ^ length items → a.weight + a.off ≡ weight-alone limit items
