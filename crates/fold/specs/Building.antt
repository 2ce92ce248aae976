-- What the functions that build the table need and leave.
-- Assumes nothing.
use Rattle.std.specs.Prelude.{ℕ, suc, ◌+◌, ◌*◌, ◌-◌, max, ◌≤◌, ◌<◌, ◌≡◌, Bool, Option, None, Some, List, length, set, All, if◌then◌else◌}
use Rattle.std.proofs.lemmas.List.Edits.{sets}
use Rattle.definition.specs.declared.Entry.{Entry}
use Rattle.definition.specs.declared.TheConstants.{MOST_STATEMENTS, LARGEST}
use Rattle.definition.specs.Fold.{Entries, end, entry, has_member, rebased, redefiners, union_members, widest}
use Rattle.definition.specs.Fold.{folded_below, folded_all}
use Rattle.definition.specs.Listing.{members#}
use Rattle.definition.specs.Search.{entries#}
use Rattle.rows.specs.declared.Row.{Row}
use Rattle.rows.specs.Rows.{row_in}
use Rattle.layout.specs.Targets.{place_at}
use Rattle.layout.specs.Places.{entry_in}
use Rattle.layout.specs.Shown.{list_in, redefiners_in}
use Rattle.fold.specs.declared.table.TableEntry.{TableEntry}
use Rattle.fold.specs.declared.entries.Block.{Block}
use Rattle.fold.specs.declared.table.Mark.{Mark}
use Rattle.fold.specs.declared.table.Mark.TheVariants.{Own, Member, Union}
use Rattle.fold.specs.Entered.{listed, flat_in, shown_all, Sound, From}

-- ---------------------------------------------------------------- what is built

-- an entry by itself, or as a member of the union that starts there
abbrev pub stands_as : Option ℕ → Entry → Entry
stands_as None e = e
stands_as (Some start) e = rebased start e

-- its mark, of a row at that offset
abbrev pub mark_of : ℕ → Option ℕ → Mark
mark_of offset None = Own
mark_of offset (Some start) = Member (offset - start)

-- row i so, with its members, which end at j
abbrev pub item_in : List ℕ → List Row → ℕ → ℕ → Option ℕ → Entries
item_in text w i j union = entry (stands_as union (entry_in w i)) (listed text w (i + 1) j) end

-- the redefiners of row i among the rows from j up to `to`
abbrev pub redefined : List ℕ → List Row → ℕ → ℕ → ℕ → Entries
redefined text w i j to = folded_below text (redefiners_in text w i j to)

-- the members of the union of row i, whose children end at j, with its redefiners
abbrev pub union_in : List ℕ → List Row → ℕ → ℕ → ℕ → Entries
union_in text w i j to =
    union_members text (entry_in w i) (folded_all text (list_in w (suc i) j))
    (redefiners text (place_at w i) (folded_below text (list_in w j to)))

-- a member of row i has its name
abbrev pub own_member : List ℕ → List Row → ℕ → ℕ → Bool
own_member text w i j = has_member text (row_in w i).statement.name (folded_all text (list_in w (suc i) j))

-- what row i gives to the members of its union: its own members, where one of them has its name, or itself
abbrev pub based_in : List ℕ → List Row → ℕ → ℕ → Entries
based_in text w i j =
    if own_member text w i j then listed text w (i + 1) j else item_in text w i j (Some (row_in w i).place.offset)

-- ---------------------------------------------------------------- blocks

abbrev pub block : ℕ → ℕ → ℕ → ℕ → Block
block next depth count widest = record { next = next; depth = depth; count = count; widest = widest }

-- the members of the next entry begin, one deeper
abbrev pub within : Block → Block
within b = block (b.next + 1) (b.depth + 1) 0 0

-- there is room for n more entries behind the block, of rows before `to`
pub record TableRoom (out : List TableEntry) (b : Block) (n to : ℕ) : Type 0 where
  pub fits : b.next + n ≤ length out
  pub small : b.next + n < 65536
  pub deep : b.depth ≤ b.next
  pub few : b.count ≤ b.next
  pub narrow : b.widest ≤ LARGEST
  pub rows : to ≤ MOST_STATEMENTS

-- the entries of the list es, of rows from `from` up to `to`, were put behind the block b
pub record Built
    (from to : ℕ) (w : List Row) (out : List TableEntry) (b : Block) (es : Entries) (r : Block) (after : List TableEntry) : Type 0 where
  pub items : List TableEntry
  pub rows : All (Sound w to) items
  pub inside : All (From from) items
  pub is : shown_all w items ≡ flat_in b.depth es
  pub put : after ≡ sets out b.next items
  pub next : r.next ≡ b.next + entries# es
  pub deep : r.depth ≡ b.depth
  pub count : r.count ≡ b.count + members# es
  pub most : r.widest ≡ max b.widest (widest es)
  pub narrow : r.widest ≤ LARGEST

-- ---------------------------------------------------------------- one entry, once its members are there

-- row i by itself or as a member of the union that starts there
abbrev pub own_item : List Row → ℕ → Option ℕ → Block → Block → TableEntry
own_item w i union b inner =
    record {
      row = i;
      mark = mark_of (row_in w i).place.offset union;
      members = inner.count;
      below = inner.next - b.next - 1;
      depth = b.depth;
    }

-- the union of row i with its redefiners
abbrev pub union_item : List Row → ℕ → Block → Block → TableEntry
union_item w i b inner =
    record {
      row = i;
      mark = Union inner.widest;
      members = inner.count;
      below = inner.next - b.next - 1;
      depth = b.depth;
    }

-- what is needed to close it
pub record ItemOpen (out : List TableEntry) (b inner : Block) (i : ℕ) : Type 0 where
  pub fits : b.next < length out
  pub above : b.next + 1 ≤ inner.next
  pub small : inner.next < 65536
  pub members : inner.count ≤ inner.next
  pub deep : b.depth ≤ b.next
  pub few : b.count ≤ b.next
  pub narrow : (b.widest ≤ LARGEST) × (inner.widest ≤ LARGEST)
  pub row : i < MOST_STATEMENTS

-- the item x of that width stands before its members
pub record ItemClosed
    (out : List TableEntry) (b inner : Block) (x : TableEntry) (width : ℕ) (r : Block) (after : List TableEntry) : Type 0 where
  pub put : after ≡ set out b.next x
  pub next : r.next ≡ inner.next
  pub deep : r.depth ≡ b.depth
  pub count : r.count ≡ b.count + 1
  pub most : r.widest ≡ max b.widest width
  pub narrow : r.widest ≤ LARGEST

-- ---------------------------------------------------------------- the whole table

-- the table has room for the entries of so many rows: there are at most three for two rows
abbrev pub Roomy : List TableEntry → ℕ → Type 0
Roomy t rows = 3 * rows ≤ 2 * length t
