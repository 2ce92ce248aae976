-- The reasons of a row, read from the rows: what placed it and its slack, then outward by the parents; and what the
-- reasons of an entry need.
-- Assumes nothing.
use Rattle.std.specs.Prelude.{ℕ, zero, suc, ◌-◌, ◌≤◌, ◌<◌, ◌≡◌, List, [], ◌∷◌, ◌++◌, eqb, ltb, length, if◌then◌else◌, Option, None, Some}
use Rattle.definition.specs.declared.Reason.{Reason}
use Rattle.definition.specs.declared.TheConstants.{MOST_STATEMENTS}
use Rattle.definition.specs.Basic.{is_given}
use Rattle.definition.specs.Reasons.{slack_of, chains, chain_at}
use Rattle.rows.specs.declared.Row.{Row}
use Rattle.rows.specs.Rows.{row_of_code, row_code, row_in}
use Rattle.record.specs.declared.LaidRecord.{LaidRecord}
use Rattle.layout.specs.Shown.{list_in}
use Rattle.fold.specs.declared.table.TableEntry.{TableEntry}
use Rattle.fold.specs.Entered.{Entered}

-- ---------------------------------------------------------------- a row's own reasons

-- the latest earlier sibling without REDEFINES, and the one that its REDEFINES names: the row and 1, or 0 for none
abbrev pub plain_at : List Row → ℕ → ℕ
plain_at w k = row_code (row_in w k).place.plain

abbrev pub target_at : List Row → ℕ → ℕ
target_at w k = row_code (row_in w k).place.target

-- what the placing reason adds: the row's offset without its slack
abbrev pub added_at : List Row → ℕ → ℕ
added_at w k = (row_in w k).place.offset - (row_in w k).place.slack

-- the reason over a row, which it redefines, or after a row, its sibling; first in its list where there is none
abbrev pub over_row : List Row → ℕ → Option ℕ → Reason
over_row w adds None = Reason.First
over_row w adds (Some k) = Reason.Over (row_in w k).statement.name adds

abbrev pub after_row : List Row → ℕ → Option ℕ → Reason
after_row w adds None = Reason.First
after_row w adds (Some k) = Reason.After (row_in w k).statement.name adds

-- its placing reason: laid over the one that it redefines, or directly after the sibling
unfoldable pub placing_at : List Row → ℕ → Reason
placing_at w k =
    if is_given (row_in w k).statement.clauses.redefines then over_row w (added_at w k) (row_of_code (target_at w k))
    else after_row w (added_at w k) (row_of_code (plain_at w k))

unfoldable pub own_at : List Row → ℕ → List Reason
own_at w k = placing_at w k ∷ slack_of (row_in w k).place.slack

-- ---------------------------------------------------------------- outward

-- the reasons of the group of row k: inside it, and its own
unfoldable pub group_at : List Row → ℕ → List Reason
group_at w k = Reason.Inside (row_in w k).statement.name ∷ own_at w k

-- among the first n rows, those of the groups from the row p outward, which is given with 1, of a record whose fields
-- begin at row `from`
unfoldable pub outward_in : List Row → ℕ → ℕ → ℕ → List Reason
outward_in w from zero p = []
outward_in w from (suc k) p =
    if eqb p (suc k) then (if ltb from p then group_at w k ++ outward_in w from k (row_code (row_in w k).parent) else [])
    else outward_in w from k p

abbrev pub outward_at : List Row → ℕ → ℕ → List Reason
outward_at w from p = outward_in w from p p

-- the chain of row k
unfoldable pub chain_of : List Row → ℕ → ℕ → List Reason
chain_of w from k = own_at w k ++ outward_at w from (row_code (row_in w k).parent)

-- ---------------------------------------------------------------- the rows of a record

-- row k is not before its slack, and names earlier rows
pub record RowSettled (w : List Row) (k : ℕ) : Type 0 where
  pub slack : (row_in w k).place.slack ≤ (row_in w k).place.offset
  pub plain : plain_at w k ≤ k
  pub target : target_at w k ≤ k
  pub parent : row_code (row_in w k).parent ≤ k

-- so does each of the rows from `from` up to `to`
pub record Settled (w : List Row) (from to : ℕ) : Type 0 where
  pub fits : to ≤ length w
  pub few : to ≤ MOST_STATEMENTS
  pub rows : (k : ℕ) → from ≤ k → k < to → RowSettled w k

-- ---------------------------------------------------------------- an entry

-- the entries of a record, each of whose rows has the chain of its statement
pub record ChainedTable (text : List ℕ) (w : List Row) (t : List TableEntry) (from to : ℕ) : Type 0 where
  pub table : Entered text w from to t
  pub settled : Settled w from to
  pub chained :
      (k : ℕ) → from ≤ k → k < to → chain_at (row_in w k).statement.at (chains text [] [] (list_in w from to)) ≡ chain_of w from k

-- such a record, with its text
abbrev pub Explainable : LaidRecord → Type 0
Explainable a = ChainedTable a.text.now a.table.rows.all.now a.table.items.now a.from a.table.rows.count
