-- What laying a whole record says: why it is refused, or which rows hold its entries, and its length.
-- Assumes nothing.
use Rattle.std.specs.Prelude.{ℕ, suc, ◌+◌, ◌≤◌, ◌≡◌, List, length, take}
use Rattle.definition.specs.declared.TheConstants.{MOST_STATEMENTS}
use Rattle.definition.specs.Basic.{Answer, Ok, ◌>>=◌}
use Rattle.definition.specs.Calls.{kept_statements, record_tree}
use Rattle.definition.specs.Tree.{Forest, leaf, item, forest, fields}
use Rattle.definition.specs.Usages.{inherited}
use Rattle.definition.specs.Owner.{size}
use Rattle.rows.specs.declared.Row.{Row}
use Rattle.rows.specs.Rows.{row_in, row_code}
use Rattle.definition.specs.Fold.{Entries, folded_all}
use Rattle.definition.specs.Record.{record_length, unfolded}
use Rattle.layout.specs.Places.{rows_forest}
use Rattle.layout.specs.Children.{BelowCounted}
use Rattle.layout.specs.Outcomes.{Room}
use Rattle.record.specs.declared.Record.{Record}
use Rattle.record.specs.declared.LaidRecord.{LaidRecord}
use Rattle.definition.specs.Listing.{members#}
use Rattle.layout.specs.Shown.{list_in, Tree}
use Rattle.fold.specs.declared.table.TableEntry.{TableEntry}
use Rattle.fold.specs.Entered.{Entered}

-- each row of a list, from row k on, and of those below it names its parent, the row and 1; that of the list is p
abbrev pub Under : List Row → ℕ → ℕ → Forest → Type 0
Under w p k leaf = Unit {0}
Under w p k (item s kids later) =
    (row_code (row_in w k).parent ≡ p) × Under w (suc k) (suc k) kids × Under w p (suc k + size kids) later

-- the fields of a record that has n rows are the rows from r on: all, or those under row 0
pub record FieldsFrom (w : List Row) (n r : ℕ) : Type 0 where
  pub low : r ≤ n
  pub is : fields (rows_forest w 0 n) ≡ rows_forest w r n
  pub under : Under w 0 0 (rows_forest w 0 n) → Under w r r (rows_forest w r n)
  pub counted : BelowCounted w 0 (rows_forest w 0 n) → BelowCounted w r (rows_forest w r n)

-- the statements of a text, as a forest
unfoldable pub tree_of : List ℕ → Answer Forest
tree_of text = do
  ss ← kept_statements text
  Ok (inherited (forest ss))

-- the first n rows, ready to be laid: each names its parent
pub record Fielded (text : List ℕ) (w : List Row) (n : ℕ) : Type 0 where
  pub under : Under w 0 0 (rows_forest w 0 n)
  pub few : n ≤ MOST_STATEMENTS
  pub room : Room text w 0 n

-- the statements of a text, where so much work memory is lent, stand in the first n rows, ready to be laid
pub record Read (text : List ℕ) (work : ℕ) (w : List Row) (n : ℕ) : Type 0 where
  pub are : record_tree text work ≡ Ok (rows_forest w 0 n)
  pub ready : Fielded text w n

-- the fields of these statements laid, with no list folded
abbrev pub laid_of : List ℕ → Answer Forest → Answer Entries
laid_of text read = read >>= λ t. unfolded text (fields t)

-- the rows up to `to` hold the statements that were read, those from `from` on the fields, and their places; the parent
-- of a field, the row and 1, is `from`: none, or the root that was dropped
pub record Listed (text : List ℕ) (read : Answer Forest) (w : List Row) (from to bytes : ℕ) : Type 0 where
  pub tree_is : read ≡ Ok (rows_forest w 0 to)
  pub fields_are : fields (rows_forest w 0 to) ≡ rows_forest w from to
  pub is : laid_of text read ≡ Ok (list_in w from to)
  pub low : from ≤ to
  pub under : Under w from from (rows_forest w from to)
  pub tree : Tree text w from to
  pub few : to ≤ MOST_STATEMENTS
  pub long : bytes ≡ record_length (folded_all text (list_in w from to))

-- a record of the statements that were read, with its rows and its entries
pub record LaidOut
    (text : List ℕ) (read : Answer Forest) (w : List Row) (t : List TableEntry) (from to long top : ℕ) : Type 0 where
  pub fits : to ≤ length w
  pub listed : Listed text read w from to long
  pub entered : Entered text w from to t
  pub tops : top ≡ members# (folded_all text (list_in w from to))

-- a record that was laid out is one of the statements that are read from its text, where so much work memory is lent
pub record Laid (a : LaidRecord) : Type 0 where
  pub work : ℕ
  pub out :
      LaidOut a.text.now (record_tree a.text.now work) a.table.rows.all.now a.table.items.now a.from
      a.table.rows.count a.length a.top

-- the same, as a call leaves the table: its first items are the entries
pub record LaidIn (text : List ℕ) (read : Answer Forest) (w : List Row) (t : List TableEntry) (a : Record) : Type 0 where
  pub inside : a.count ≤ length t
  pub laid : LaidOut text read w (take a.count t) a.from a.to a.length a.top

-- and of the statements of a text
pub record LaidBy (text : List ℕ) (w : List Row) (t : List TableEntry) (a : Record) : Type 0 where
  pub work : ℕ
  pub by : LaidIn text (record_tree text work) w t a
