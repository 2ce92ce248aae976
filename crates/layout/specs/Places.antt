-- What the layout adds to the rows: the offset, the width, the kind, the digits and the slack of the entry, the sibling
-- before it, its base and the siblings that may place it.
-- Assumes nothing.
use Rattle.std.specs.Prelude.{ℕ, suc, ◌+◌, ◌-◌, ◌≡◌, List, set, Option, None}
use Rattle.definition.specs.declared.Statement.{Statement}
use Rattle.definition.specs.declared.Entry.{Entry}
use Rattle.definition.specs.Tree.{Forest, leaf, item, forest}
use Rattle.definition.specs.Picture.{pictured}
use Rattle.definition.specs.Fold.{Entries, end, entry}
use Rattle.definition.specs.Layout.{entry_of}
use Rattle.definition.specs.Owner.{size}
use Rattle.definition.specs.Search.{entries#}
use Rattle.rows.specs.declared.Row.{Row}
use Rattle.rows.specs.Rows.{row_of_code, row_code, row_in, before_in, statements_from}
use Rattle.layout.specs.Targets.{base_after, plain_after, target_after}

-- the entry in a row
abbrev pub entry_at : Row → Entry
entry_at r =
    let p = r.place in
    record (entry_of r.statement (pictured p.kind p.digits 0) p.offset p.slack 0 0) {
      width = p.width;
      slack_at_end = p.slack_at_end;
    }

abbrev pub entry_in : List Row → ℕ → Entry
entry_in w k = entry_at (row_in w k)

-- what stands in a row before it has its place: its statement, how many rows stand below it, its fingerprint and the
-- row that it stands under
abbrev pub known : Row → Statement × ℕ × ℕ × Option ℕ
known r = (r.statement, r.below, r.fingerprint, r.parent)

-- a row with a next row of its union
abbrev pub named : Row → Option ℕ → Row
named r next = record r { place = record (r.place) { next = next } }

-- a row without the next row of its union
abbrev pub unnamed : Row → Row
unnamed r = named r None

-- ---------------------------------------------------------------- places

-- a row with the place of an entry, behind so many rows that are no siblings; the next row of its union is not known
-- yet
abbrev pub placed : Row → ℕ → Option ℕ → Option ℕ → Option ℕ → Entry → Row
placed r gap base plain target e =
    record r {
      place =
          record {
            offset = e.offset;
            width = e.width;
            slack = e.slack;
            slack_at_end = e.slack_at_end;
            kind = e.kind;
            digits = e.digits;
            gap = gap;
            base = base;
            plain = plain;
            target = target;
            next = None;
          };
    }

-- row k of w with the place of an entry, after the sibling `last`, whose base and placers are found in w
abbrev pub placed_in : List ℕ → List Row → ℕ → ℕ → Entry → Row
placed_in text w k last e =
    placed (row_in w k) (k - last) (row_of_code (base_after text w k last)) (row_of_code (plain_after w last))
    (row_of_code (target_after text w k last)) e

-- w with that row
abbrev pub put_place : List ℕ → List Row → ℕ → ℕ → Entry → List Row
put_place text w k last e = set w k (placed_in text w k last e)

-- w with the places of a list of entries, from row k on, after the sibling `last`; the places of the entries below one
-- come before its own
unfoldable pub put_places : List ℕ → List Row → ℕ → ℕ → Entries → List Row
put_places text w k last end = w
put_places text w k last (entry e members later) =
    put_places text (put_place text (put_places text w (suc k) 0 members) k last e) (suc k + entries# members) (suc k) later

-- ---------------------------------------------------------------- the entries in the table

-- the statements of the rows a to before b, as a forest
abbrev pub rows_forest : List Row → ℕ → ℕ → Forest
rows_forest w a b = forest (statements_from w a (b - a))

-- the entries in the rows from k on, in the shape of the forest of their statements
unfoldable pub entries_in : List Row → ℕ → Forest → Entries
entries_in w k leaf = end
entries_in w k (item s kids later) =
    entry (entry_in w k) (entries_in w (suc k) kids) (entries_in w (suc k + size kids) later)

-- row k, after the sibling `last` and over the forest of its children, names that sibling, its base and what may place
-- it, and counts the rows below it
pub record RowLinked (text : List ℕ) (w : List Row) (k last : ℕ) (kids : Forest) : Type 0 where
  pub before : before_in w k ≡ last
  pub below : (row_in w k).below ≡ size kids
  pub base : row_code (row_in w k).place.base ≡ base_after text w k last
  pub plain : row_code (row_in w k).place.plain ≡ plain_after w last
  pub target : row_code (row_in w k).place.target ≡ target_after text w k last

-- each row of a list, from row k on, and of the lists below it does; `last` is the sibling before the first
abbrev pub Linked : List ℕ → List Row → ℕ → ℕ → Forest → Type 0
Linked text w k last leaf = Unit {0}
Linked text w k last (item s kids later) =
    RowLinked text w k last kids × Linked text w (suc k) 0 kids × Linked text w (suc k + size kids) (suc k) later
