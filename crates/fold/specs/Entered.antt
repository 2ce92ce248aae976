-- What a table of entries says, by the rows that it names: the folded listing, one entry after the other. `own_of` reads
-- an entry back.
-- Assumes nothing.
use Rattle.rows.specs.declared.Row.{Row}
use Rattle.std.specs.Prelude.{ℕ, ◌+◌, ◌*◌, max, ◌≤◌, ◌<◌, ◌≡◌, Bool, false, ◌||◌, List, [], ◌∷◌, ◌++◌, eqb, ltb, length, if◌then◌else◌, All}
use Rattle.definition.specs.declared.Entry.{Entry}
use Rattle.definition.specs.declared.Refusal.{Refusal}
use Rattle.definition.specs.declared.TheConstants.{LARGEST}
use Rattle.definition.specs.Basic.{absent, is_given, Answer, Ok, ◌>>=◌, refuse_if}
use Rattle.definition.specs.Fold.{Entries, end, entry, total, entry_end, union, folded_all}
use Rattle.definition.specs.Listing.{members#, entry_bytes}
use Rattle.definition.specs.Search.{entries#}
use Rattle.layout.specs.Places.{entry_in}
use Rattle.layout.specs.Shown.{list_in}
use Rattle.fold.specs.declared.table.TableEntry.{TableEntry}
use Rattle.fold.specs.declared.table.Mark.{Mark}
use Rattle.fold.specs.declared.table.Mark.TheVariants.{Own, Member, Union}

-- ---------------------------------------------------------------- the listing's entries, one after the other

-- an entry as the listing shows it: itself, how many members it has, how many entries stand below it, and how deep it
-- stands
pub record Shown : Type 0 where
  pub own : Entry
  pub members : ℕ
  pub below : ℕ
  pub depth : ℕ

-- the entries of a list at a depth, a group before its members
unfoldable pub flat_in : ℕ → Entries → List Shown
flat_in d end = []
flat_in d (entry e ms later) =
    record { own = e; members = members# ms; below = entries# ms; depth = d } ∷ (flat_in (d + 1) ms ++ flat_in d later)

-- the bytes of the entries
unfoldable pub flat_bytes : List Shown → List ℕ
flat_bytes [] = []
flat_bytes (x ∷ xs) = entry_bytes x.own x.members ++ flat_bytes xs

-- some entry has a DEPENDING ON
unfoldable pub flat_varies : List Shown → Bool
flat_varies [] = false
flat_varies (x ∷ xs) = is_given x.own.depending || flat_varies xs

-- the largest end at the top
abbrev pub top_end : Shown → ℕ
top_end x = if eqb x.depth 0 then entry_end x.own else 0

unfoldable pub flat_length : List Shown → ℕ
flat_length [] = 0
flat_length (x ∷ xs) = max (top_end x) (flat_length xs)

-- 29 for the first at the top that ends above the largest number
unfoldable pub flat_fits : List Shown → Answer (Unit {0})
flat_fits [] = Ok tt
flat_fits (x ∷ xs) = do
  _ ← refuse_if (ltb LARGEST (top_end x)) (Refusal.TooLarge x.own.at)
  flat_fits xs

-- ---------------------------------------------------------------- what an item says, by the rows

-- an entry at another offset, as a member of a union
abbrev pub moved : ℕ → Entry → Entry
moved offset e = record e { offset = offset; redefines = absent }

-- the entry that an item stands for, from its row's
abbrev pub by_mark : Mark → Entry → Entry
by_mark Own e = e
by_mark (Member offset) e = moved offset e
by_mark (Union width) e = union e width

abbrev pub own_of : List Row → TableEntry → Entry
own_of w x = by_mark x.mark (entry_in w x.row)

abbrev pub shown_of : List Row → TableEntry → Shown
shown_of w x = record { own = own_of w x; members = x.members; below = x.below; depth = x.depth }

unfoldable pub shown_all : List Row → List TableEntry → List Shown
shown_all w [] = []
shown_all w (x ∷ xs) = shown_of w x ∷ shown_all w xs

-- an item names one of the first n rows, and is not too large
pub record Sound (w : List Row) (n : ℕ) (x : TableEntry) : Type 0 where
  pub there : x.row < n
  pub small : total (own_of w x) ≤ LARGEST

-- it names a row from `from` on
abbrev pub From : ℕ → TableEntry → Type 0
From from x = from ≤ x.row

-- the folded list of the rows from `from` up to `to`
abbrev pub listed : List ℕ → List Row → ℕ → ℕ → Entries
listed text w from to = folded_all text (list_in w from to)

-- the items are the folded listing of the rows from `from` up to `to`
pub record Entered (text : List ℕ) (w : List Row) (from to : ℕ) (t : List TableEntry) : Type 0 where
  pub rows : All (Sound w to) t
  pub inside : All (From from) t
  pub few : 2 * length t ≤ 3 * to
  pub is : shown_all w t ≡ flat_in 0 (listed text w from to)
