-- What an extract is worth, as one statement (`extracted`, of the proofs, keeps it): the answer fits and is the
-- heaviest fitting choice among those looked at, and no choice there is outweighs it by more than the answer says.
-- Assumes nothing.
use Rattle.std.specs.Prelude.{ℕ, ◌+◌, ◌≤◌, ◌<◌, ◌≡◌, false, List, [], ◌∷◌, length}
use Rattle.definition.specs.declared.Extract.{Extract}
use Rattle.definition.specs.declared.TheConstants.{MOST_ITEMS}
use Rattle.definition.specs.Basic.{Ok}
use Rattle.definition.specs.Tree.{Forest}
use Rattle.definition.specs.Fold.{Entries}
use Rattle.definition.specs.Record.{layout}
use Rattle.definition.specs.Owner.{overlaid}
use Rattle.definition.specs.Demand.{Among}
use Rattle.definition.specs.Extract.{WeightedItem, widths, items, misweighed, bytes_of, weight_of}
use Rattle.definition.specs.Extract.{chosen, subsets#, examined, alone}
use Rattle.definition.specs.Calls.{record_fields}

-- a choice of the items, whatever its number: each of them is in it or not
pub data Choice : List WeightedItem → List WeightedItem → Type 0 where
  none : Choice [] []
  with : {i : WeightedItem} {cs is : List WeightedItem} → Choice cs is → Choice (i ∷ cs) (i ∷ is)
  without : {i : WeightedItem} {cs is : List WeightedItem} → Choice cs is → Choice cs (i ∷ is)

-- a choice that fits, and is one of those looked at
pub record LookedAt (limit budget : ℕ) (is : List WeightedItem) (n : ℕ) : Type 0 where
  pub looked-at : Among n (examined budget is)
  pub fits : bytes_of (chosen n is) ≤ limit

-- what holds of the answer to a limit and a budget
pub record Best (limit budget : ℕ) (is : List WeightedItem) (a : Extract) : Type 0 where
  -- it was looked at, and it fits
  pub seen : LookedAt limit budget is a.subset
  pub weighs : a.weight ≡ weight_of (chosen a.subset is)
  -- it is the heaviest fitting one among those looked at,
  pub heaviest : (n : ℕ) → LookedAt limit budget is n → weight_of (chosen n is) ≤ a.weight
  -- the earliest if equal
  pub earliest : (n : ℕ) → LookedAt limit budget is n → weight_of (chosen n is) ≡ a.weight → a.subset ≤ n
  -- so many were looked at
  pub counted : a.examined ≡ length (examined budget is)
  -- no choice there is outweighs it by more than the answer says;
  pub bound : (cs : List WeightedItem) → Choice cs is → bytes_of cs ≤ limit → weight_of cs ≤ a.weight + a.off
  -- with all looked at, none outweighs it,
  pub all : subsets# is ≤ budget → a.off ≡ 0
  -- and else the items that fit alone weigh just so much more
  pub less : budget < subsets# is → a.weight + a.off ≡ weight_of (alone limit is)

-- what holds of every extract that is not refused
pub record Extracted (text : List ℕ) (work : ℕ) (weights : List ℕ) (limit budget : ℕ) (a : Extract) : Type 0 where
  -- the fields of the record, and the entries of its listing,
  pub of : Forest
  pub shown : Entries
  pub read : record_fields text work ≡ Ok of
  pub laid_out : layout text of ≡ Ok shown
  -- without REDEFINES and DEPENDING ON,
  pub plain : overlaid of ≡ false
  -- at most 16 at the top, a weight for each, each in its range,
  pub few : length (widths shown) ≤ MOST_ITEMS
  pub paired : length weights ≡ length (widths shown)
  pub weighed : misweighed weights ≡ false
  -- and a subset to look at
  pub some : 0 < budget
  pub best : Best limit budget (items (widths shown) weights) a
