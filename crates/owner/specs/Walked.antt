-- What the byte owner finds in the table: the clauses that it does not take, and the rows as its walk reads them.
-- Assumes nothing.
use Rattle.std.specs.Prelude.{ℕ, zero, suc, ◌≤◌, Bool, ◌||◌, List, [], ◌∷◌, length}
use Rattle.definition.specs.declared.Statement.{Statement}
use Rattle.definition.specs.Basic.{is_given, Ok}
use Rattle.definition.specs.Search.{Row as Step, row_of_entry}
use Rattle.rows.specs.declared.Row.{Row}
use Rattle.rows.specs.Rows.{row_in}
use Rattle.layout.specs.Places.{entry_in, rows_forest}
use Rattle.record.specs.declared.LaidRecord.{LaidRecord}
use Rattle.record.specs.Laying.{Listed}
use Rattle.layout.specs.Children.{BelowCounted}
use Rattle.layout.specs.Shown.{Sized}

-- a statement has a REDEFINES or a DEPENDING ON
abbrev pub overlays : Statement → Bool
overlays s = is_given s.clauses.redefines || is_given s.clauses.depending

-- row k as the walk reads it: its offset, width and count, the slack at its end, and the number of rows below it
abbrev pub row_at : List Row → ℕ → Step
row_at w k = row_of_entry (entry_in w k) (row_in w k).below

-- n of them from row k on
unfoldable pub table_rows : List Row → ℕ → ℕ → List Step
table_rows w k zero = []
table_rows w k (suc n) = row_at w k ∷ table_rows w (suc k) n

-- the rows of a list and of those below it are there, none is too large, and each counts the rows below it
pub record Walkable (w : List Row) (from to : ℕ) : Type 0 where
  pub fits : to ≤ length w
  pub sized : Sized w from to
  pub counted : BelowCounted w from (rows_forest w from to)

-- the rows of a record hold its statements, and its length is that of its fields
abbrev pub Searchable : LaidRecord → Type 0
Searchable a =
    Listed a.text.now (Ok (rows_forest a.table.rows.all.now 0 a.table.rows.count))
    a.table.rows.all.now a.from a.table.rows.count a.length
