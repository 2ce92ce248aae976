-- The details of a table of entries, one after the other.
-- Assumes nothing.
use Rattle.rows.specs.declared.Row.{Row}
use Rattle.std.specs.Prelude.{ℕ, ◌+◌, ◌≤◌, ◌<◌, ◌≡◌, List, [], ◌∷◌, ◌++◌, length, get_or, set}
use Rattle.std.specs.Prelude.{Option}
use Rattle.definition.specs.declared.Statement.{Statement}
use Rattle.definition.specs.declared.Entry.{Entry}
use Rattle.definition.specs.declared.TheConstants.{MOST_STATEMENTS}
use Rattle.definition.specs.Basic.{le4}
use Rattle.definition.specs.Fold.{folded_all}
use Rattle.definition.specs.Listing.{flag, span_bytes}
use Rattle.definition.specs.Details.{root_bytes, digits_bytes, sign_words_byte, Detail, detail, detail_bytes, listing_details, height}
use Rattle.definition.specs.Tree.{fields}
use Rattle.layout.specs.Places.{rows_forest}
use Rattle.record.specs.declared.LaidRecord.{LaidRecord}
use Rattle.layout.specs.Shown.{list_in}
use Rattle.fold.specs.declared.table.TableEntry.{TableEntry}
use Rattle.fold.specs.Entered.{Shown, shown_all, Entered}

-- ---------------------------------------------------------------- the parts of an entry's details

abbrev pub standing_bytes : Detail → List ℕ
standing_bytes x = le4 x.own.at ++ (x.own.level ∷ x.depth ∷ flag x.own.folded ∷ le4 x.below)

abbrev pub clause_places : Entry → List ℕ
clause_places e = span_bytes e.picture ++ span_bytes e.over ++ span_bytes e.depending

abbrev pub held_bytes : Entry → List ℕ
held_bytes e = le4 e.slack_at_end ++ digits_bytes e.digits ++ span_bytes e.usage ++ (sign_words_byte e.sign ∷ [])

-- ---------------------------------------------------------------- the head

abbrev pub head_bytes : Option Statement → ℕ → List ℕ
head_bytes root many = root_bytes root ++ le4 many

-- ---------------------------------------------------------------- entries one after the other

-- the first byte of an entry, where `starts` holds the first byte of the open list of each depth
abbrev pub first_byte_in : List ℕ → Shown → ℕ
first_byte_in starts x = get_or starts x.depth 0 + x.own.offset

abbrev pub detail_in : ℕ → Shown → Detail
detail_in first x = detail x.own x.depth x.below first

-- the details of entries; each opens a list one deeper, which starts at its first byte
unfoldable pub flat_details : List ℕ → List Shown → List ℕ
flat_details starts [] = []
flat_details starts (x ∷ xs) =
    detail_bytes (detail_in (first_byte_in starts x) x) ++ flat_details (set starts (x.depth + 1) (first_byte_in starts x)) xs

-- none stands deeper than the lists of a listing nest
abbrev pub Within : List Shown → Type 0
Within [] = Unit {0}
Within (x ∷ xs) = (x.depth < 130) × Within xs

-- ---------------------------------------------------------------- the table

-- no list starts farther on: each of at most 1,200 entries adds less than 2^32
abbrev pub farthest : ℕ
farthest = 5153960755200

-- r is the first byte of an entry, and its offset is one of 32 bits
pub record FirstByte (starts : List ℕ) (x : Shown) (r : ℕ) : Type 0 where
  pub is : r ≡ first_byte_in starts x
  pub small : x.own.offset < 4294967296

-- none of the entries stands too deep, and they are no more than a table has
pub record Shallow (w : List Row) (t : List TableEntry) : Type 0 where
  pub deep : Within (shown_all w t)
  pub few : length t ≤ 1200

-- ---------------------------------------------------------------- a record

-- the details of the folded list in the rows from `from` up to `to`, and of a root
abbrev pub details_of : Option Statement → List ℕ → List Row → ℕ → ℕ → List ℕ
details_of root text w from to = listing_details root (folded_all text (list_in w from to))

-- the table of a record, which was laid
pub record RecordTabled (text : List ℕ) (w : List Row) (t : List TableEntry) (from to : ℕ) : Type 0 where
  pub few : to ≤ MOST_STATEMENTS
  pub table : Entered text w from to t
  pub deep : height (folded_all text (list_in w from to)) ≤ 130

-- its fields are those of the statements in its rows
pub record Dropped (w : List Row) (from to : ℕ) : Type 0 where
  pub low : from ≤ to
  pub fields_are : fields (rows_forest w 0 to) ≡ rows_forest w from to

-- such a record, with its text
abbrev pub Detailable : LaidRecord → Type 0
Detailable a = RecordTabled a.text.now a.table.rows.all.now a.table.items.now a.from a.table.rows.count
