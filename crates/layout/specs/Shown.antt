-- The folded list of a stretch of rows, entry by entry: how the entry of a row stands in it, and what it comes to.
-- Assumes nothing.
use Rattle.std.specs.Prelude.{ℕ, suc, ◌+◌, ◌≤◌, ◌<◌, ◌≡◌, Bool, true, false, eqb, ltb, List, ◌∷◌, length, if◌then◌else◌}
use Rattle.definition.specs.declared.Span.{Span}
use Rattle.definition.specs.declared.Entry.{Entry}
use Rattle.definition.specs.declared.TheConstants.{LARGEST}
use Rattle.definition.specs.Basic.{is_given}
use Rattle.definition.specs.Tree.{Forest, leaf, item}
use Rattle.definition.specs.Fold.{Entries, end, entry, total, same_name, same_spelling, Place, place_of, find, redefiners}
use Rattle.definition.specs.Fold.{with_redefiners, has_base, folded_list, folded_below, folded_all}
use Rattle.definition.specs.Owner.{size}
use Rattle.rows.specs.declared.Row.{Row}
use Rattle.rows.specs.Rows.{row_code, row_in, before_in}
use Rattle.layout.specs.Targets.{bases_at, base_from, place_at}
use Rattle.layout.specs.Places.{entry_in, entries_in, rows_forest, RowLinked}
use Rattle.layout.specs.declared.unions.Standing.{Standing}

-- ---------------------------------------------------------------- one entry

-- how an entry stands in the folded list: under its base, a redefiner without a base, or a base
abbrev pub standing : List ℕ → List Place → Entry → Standing
standing text bases e =
    if is_given e.redefines then (if has_base (find text e.redefines bases) then Standing.Under else Standing.Alone)
    else Standing.Base

-- the bases after it
abbrev pub bases_after : Entry → List Place → List Place
bases_after e bases = if is_given e.redefines then bases else place_of e ∷ bases

-- what it comes to: nothing, itself, or itself with its redefiners
abbrev pub shown_as : List ℕ → Standing → Entry → Entries → Entries → Entries
shown_as text Standing.Under e members later = end
shown_as text Standing.Alone e members later = entry e members end
shown_as text Standing.Base e members later = with_redefiners text e members (redefiners text (place_of e) later) end

-- whether it comes to an entry spelled like the name
abbrev pub shown_named : List ℕ → Span → Standing → Entry → Bool
shown_named text name Standing.Under e = false
shown_named text name Standing.Alone e = same_spelling text name e.name
shown_named text name Standing.Base e = same_spelling text name e.name

-- ---------------------------------------------------------------- rows

-- the entries of the rows from `from` up to `to`
abbrev pub list_in : List Row → ℕ → ℕ → Entries
list_in w from to = entries_in w from (rows_forest w from to)

-- the redefiners of row i among the rows from j up to `to`
abbrev pub redefiners_in : List ℕ → List Row → ℕ → ℕ → ℕ → Entries
redefiners_in text w i j to = redefiners text (place_at w i) (list_in w j to)

-- the rest of a folded list, from row i on, after the sibling `last`
abbrev pub folded_rest : List ℕ → List Row → ℕ → ℕ → ℕ → Entries
folded_rest text w i to last = folded_list text (bases_at w last) (folded_below text (list_in w i to))

-- what row i comes to in it, where its children end at j
abbrev pub shown_at : List ℕ → List Row → ℕ → ℕ → ℕ → ℕ → Entries
shown_at text w i j to last =
    shown_as text (standing text (bases_at w last) (entry_in w i)) (entry_in w i) (folded_all text (list_in w (suc i) j))
    (folded_below text (list_in w j to))

-- ---------------------------------------------------------------- what the table is to be

-- the union that row k stands in, by its base: the base's row and 1
abbrev pub union_of : List Row → ℕ → ℕ
union_of w k = if ltb 0 (row_code (row_in w k).place.base) then row_code (row_in w k).place.base else suc k

-- the first row of a list, from row k on, that names the base u: its row and 1, or 0 for none
unfoldable pub next_in : List Row → ℕ → ℕ → Forest → ℕ
next_in w u k leaf = 0
next_in w u k (item s kids later) = if eqb (row_code (row_in w k).place.base) u then suc k else next_in w u (suc k + size kids) later

-- a search for a name, from the sibling `last` back, finds row i where row i has that name
abbrev pub Findable : List ℕ → List Row → ℕ → ℕ → Type 0
Findable text w i last =
    (target : Span) → eqb (base_from text target w last last) (suc i) ≡ same_name text target (row_in w i).statement.name

-- row i has no REDEFINES
abbrev pub IsBase : List Row → ℕ → Type 0
IsBase w i = is_given (row_in w i).statement.clauses.redefines ≡ false

-- how row i stands in the folded list, after the sibling that it names
abbrev pub standing_at : List ℕ → List Row → ℕ → Standing
standing_at text w i = standing text (bases_at w (before_in w i)) (entry_in w i)

-- row i is there, after the sibling `last`, and a redefiner knows whether it has a base
pub record Known (text : List ℕ) (w : List Row) (i last : ℕ) : Type 0 where
  pub fits : i < length w
  pub back : last ≤ i
  pub is :
      is_given (row_in w i).statement.clauses.redefines ≡ true →
      has_base (find text (row_in w i).statement.clauses.redefines (bases_at w last)) ≡ ltb 0 (row_code (row_in w i).place.base)

-- a row is linked, and names the next row of its union among the later siblings
pub record RowMarked (text : List ℕ) (w : List Row) (k last : ℕ) (kids later : Forest) : Type 0 where
  pub row : RowLinked text w k last kids
  pub next : row_code (row_in w k).place.next ≡ next_in w (union_of w k) (suc k + size kids) later

-- each row of a list, and of the lists below it, does
abbrev pub Marked : List ℕ → List Row → ℕ → ℕ → Forest → Type 0
Marked text w k last leaf = Unit {0}
Marked text w k last (item s kids later) =
    RowMarked text w k last kids later × Marked text w (suc k) 0 kids × Marked text w (suc k + size kids) (suc k) later

-- no row from `from` up to `to` has more than `LARGEST` bytes in all its occurrences
pub record Sized (w : List Row) (from to : ℕ) : Type 0 where
  pub totals : (k : ℕ) → from ≤ k → k < to → total (entry_in w k) ≤ LARGEST

-- the rows of a list and of those below it are there, marked, and none too large
pub record Tree (text : List ℕ) (w : List Row) (from to : ℕ) : Type 0 where
  pub fits : to ≤ length w
  pub marks : Marked text w from 0 (rows_forest w from to)
  pub sized : Sized w from to

-- row i with its children up to j and its later siblings up to `to`
pub record Branch (text : List ℕ) (w : List Row) (i j to : ℕ) : Type 0 where
  pub low : i < j
  pub high : j ≤ to
  pub fits : to ≤ length w
  pub next : IsBase w i → row_code (row_in w i).place.next ≡ next_in w (suc i) j (rows_forest w j to)
  pub opened : IsBase w i → Findable text w i (suc i)
  pub marks : Marked text w (suc i) 0 (rows_forest w (suc i) j)
  pub later : Marked text w j (suc i) (rows_forest w j to)
  pub sized : Sized w i to

-- such a row that is a base
pub record Base (text : List ℕ) (w : List Row) (i j to : ℕ) : Type 0 where
  pub low : i < j
  pub high : j ≤ to
  pub fits : to ≤ length w
  pub next : row_code (row_in w i).place.next ≡ next_in w (suc i) j (rows_forest w j to)
  pub opened : Findable text w i (suc i)
  pub branch : Branch text w i j to

-- row k is there, and is not too large
pub record SizedRow (w : List Row) (k : ℕ) : Type 0 where
  pub fits : k < length w
  pub small : total (entry_in w k) ≤ LARGEST

-- ---------------------------------------------------------------- answers

-- r is the number n, and not too large
pub record Measured (n r : ℕ) : Type 0 where
  pub is : r ≡ n
  pub small : r ≤ LARGEST
