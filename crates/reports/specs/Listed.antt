-- What the steps behind the layout listing say: the bytes of a record that was laid in the table.
-- Assumes nothing.
use Rattle.rows.specs.declared.Row.{Row}
use Rattle.std.specs.Prelude.{ℕ, ◌≤◌, ◌≡◌, List}
use Rattle.definition.specs.declared.TheConstants.{MOST_STATEMENTS}
use Rattle.definition.specs.Fold.{Entries, folded_all}
use Rattle.definition.specs.Listing.{listing, members#}
use Rattle.definition.specs.Record.{record_length}
use Rattle.fold.specs.declared.table.TableEntry.{TableEntry}
use Rattle.fold.specs.Entered.{Entered}
use Rattle.layout.specs.Shown.{list_in}
use Rattle.record.specs.declared.LaidRecord.{LaidRecord}

-- the entries of the folded list in the rows from `from` up to `to`
abbrev pub entries_of : List ℕ → List Row → ℕ → ℕ → Entries
entries_of text w from to = folded_all text (list_in w from to)

-- their listing
abbrev pub listing_of : List ℕ → List Row → ℕ → ℕ → List ℕ
listing_of text w from to = listing (entries_of text w from to)

-- the record in the rows from `from` up to `to`, its length, and its table of entries
pub record Tabled (text : List ℕ) (w : List Row) (t : List TableEntry) (from to long top : ℕ) : Type 0 where
  pub few : to ≤ MOST_STATEMENTS
  pub table : Entered text w from to t
  pub tops : top ≡ members# (entries_of text w from to)
  pub length : long ≡ record_length (entries_of text w from to)

-- such a record, with its text
abbrev pub Listable : LaidRecord → Type 0
Listable a =
    Tabled a.text.now a.table.rows.all.now a.table.items.now a.from a.table.rows.count a.length a.top
