-- What the extract finds in the table: the bytes of the top-level items, one after the other.
-- Assumes nothing.
use Rattle.rows.specs.declared.Row.{Row}
use Rattle.std.specs.Prelude.{ℕ, ◌≡◌, List, [], ◌∷◌, length}
use Rattle.definition.specs.Basic.{Ok}
use Rattle.definition.specs.Fold.{Entries, end, entry, total, folded_all}
use Rattle.definition.specs.Listing.{members#}
use Rattle.layout.specs.Places.{rows_forest}
use Rattle.record.specs.declared.LaidRecord.{LaidRecord}
use Rattle.record.specs.Laying.{Listed}
use Rattle.layout.specs.Shown.{list_in, Tree}

-- the bytes of all occurrences, of each entry of a list
unfoldable pub totals : Entries → List ℕ
totals end = []
totals (entry e members later) = total e ∷ totals later

-- the rows from `from` up to `to` are there, and a place for the bytes of each of their items
pub record Gatherable (w : List Row) (from to : ℕ) (out : List ℕ) : Type 0 where
  pub text : List ℕ
  pub tree : Tree text w from to
  pub room : length (totals (list_in w from to)) ≡ length out

-- the rows from `from` up to `to` hold a record, of so many items at the top
pub record Itemed (text : List ℕ) (w : List Row) (from to long top : ℕ) : Type 0 where
  pub listed : Listed text (Ok (rows_forest w 0 to)) w from to long
  pub counted : top ≡ members# (folded_all text (list_in w from to))

-- such a record, with its text
abbrev pub Extractable : LaidRecord → Type 0
Extractable a = Itemed a.text.now a.table.rows.all.now a.from a.table.rows.count a.length a.top
