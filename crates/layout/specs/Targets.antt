-- Siblings in the rows, and the search among them that a REDEFINES makes, backward from the item: for its target, the
-- latest earlier sibling of that name, with the count of names compared; and for its base, the latest of that name that
-- is no redefiner itself. And what places an item.
-- Assumes nothing.
use Rattle.std.specs.Prelude.{ℕ, zero, suc, ◌≡◌, Bool, true, false, ◌&&◌, List, [], ◌∷◌, eqb, if◌then◌else◌}
use Rattle.std.specs.Prelude.{Option, None, Some}
use Rattle.definition.specs.declared.Span.{Span}
use Rattle.definition.specs.Basic.{is_given, Answer, Err, Ok}
use Rattle.definition.specs.Fold.{same_name, Place, Search, search_back}
use Rattle.rows.specs.declared.Row.{Row}
use Rattle.rows.specs.Rows.{row_of_code, row_code, row_in, before_in}
use Rattle.layout.specs.declared.redefines.Among.{Among}
use Rattle.layout.specs.declared.redefines.SearchEnd.{SearchEnd}
use Rattle.layout.specs.declared.redefines.Start.{Start}

-- the name and the offset of the entry in row k
abbrev pub place_at : List Row → ℕ → Place
place_at w k = record { name = (row_in w k).statement.name; offset = (row_in w k).place.offset }

-- a search among bases alone
abbrev pub among_bases : Among → Bool
among_bases Among.Siblings = false
among_bases Among.Bases = true

-- a search for bases leaves redefiners out
abbrev pub left_out : Bool → List Row → ℕ → Bool
left_out bases w k = bases && is_given (row_in w k).statement.clauses.redefines

-- among the first n rows, the siblings from `last` back, the latest first, or those of them that are bases
unfoldable pub seen_from : Bool → List Row → ℕ → ℕ → List Place
seen_from bases w zero last = []
seen_from bases w (suc k) last =
    if eqb last (suc k) then
    (if left_out bases w k then seen_from bases w k (before_in w k)
    else place_at w k ∷ seen_from bases w k (before_in w k))
    else seen_from bases w k last

-- the siblings from `last` back
abbrev pub seen_at : List Row → ℕ → List Place
seen_at w last = seen_from false w last last

-- those of them that are bases
abbrev pub bases_at : List Row → ℕ → List Place
bases_at w last = seen_from true w last last

-- row k is what a search for a name ends at
abbrev pub is_target : List ℕ → Span → Bool → List Row → ℕ → Bool
is_target text target bases w k = if left_out bases w k then false else same_name text target (row_in w k).statement.name

-- among the first n rows, the one that a search from the sibling `last` back ends at: its row and 1, or 0 for none
unfoldable pub row_from : List ℕ → Span → Bool → List Row → ℕ → ℕ → ℕ
row_from text target bases w zero last = 0
row_from text target bases w (suc k) last =
    if eqb last (suc k)
    then (if is_target text target bases w k then suc k else row_from text target bases w k (before_in w k))
    else row_from text target bases w k last

-- how many siblings it looked at to get there, those left out too
unfoldable pub looked_from : List ℕ → Span → Bool → List Row → ℕ → ℕ → ℕ
looked_from text target bases w zero last = 0
looked_from text target bases w (suc k) last =
    if eqb last (suc k) then
    (if is_target text target bases w k then 1 else suc (looked_from text target bases w k (before_in w k)))
    else looked_from text target bases w k last

-- the offset of the row that a search found, if it found one
abbrev pub offset_of : List Row → ℕ → Option ℕ
offset_of w zero = None
offset_of w (suc k) = Some (row_in w k).place.offset

-- the sibling that a REDEFINES names, from the sibling `last` back: its row and 1, or 0 for none
abbrev pub target_from : List ℕ → Span → List Row → ℕ → ℕ
target_from text redefines w last = if is_given redefines then row_from text redefines false w last last else 0

-- a search from the sibling `last` back ended there, after looking at so many
pub record Ended (text : List ℕ) (target : Span) (bases : Bool) (w : List Row) (last : ℕ) (r : SearchEnd) : Type 0 where
  pub row : r.row ≡ row_of_code (row_from text target bases w last last)
  pub looked : r.compared ≡ looked_from text target bases w last last

-- where a search ended and how many names it compared, as the definition says it
abbrev pub search_of : List Row → SearchEnd → Search
search_of w r = record { found = offset_of w (row_code r.row); compared = r.compared }

-- no search
abbrev pub no_search : Search
no_search = record { found = None; compared = 0 }

-- the definition's search for the target of a REDEFINES, if there is one
abbrev pub target_search : List ℕ → Span → List Place → Search
target_search text redefines seen = if is_given redefines then search_back text redefines seen else no_search

-- a start as the definition's answer, and the row that the item redefines, if any
abbrev pub start_of : Answer Start → Answer ℕ
start_of (Err r) = Err r
start_of (Ok s) = Ok s.offset

abbrev pub target_in : Answer Start → Option ℕ
target_in (Err r) = None
target_in (Ok s) = s.target

-- the row that a search for a name ended at, if any, has that name
abbrev pub Named : List ℕ → Span → List Row → ℕ → Type 0
Named text target w zero = Unit {0}
Named text target w (suc k) = same_name text target (row_in w k).statement.name ≡ true

-- among the first n rows, the latest base of that name from the sibling `last` back: its row and 1, or 0 for none
abbrev pub base_from : List ℕ → Span → List Row → ℕ → ℕ → ℕ
base_from text target w n last = row_from text target true w n last

-- the base that row k redefines, after the sibling `last`: its row and 1, or 0 for none
abbrev pub base_after : List ℕ → List Row → ℕ → ℕ → ℕ
base_after text w k last =
    if is_given (row_in w k).statement.clauses.redefines then base_from text (row_in w k).statement.clauses.redefines w last last else 0

-- ---------------------------------------------------------------- what places an item

-- the latest sibling without REDEFINES from `last` back: that one, or the one that it names
abbrev pub plain_after : List Row → ℕ → ℕ
plain_after w zero = 0
plain_after w (suc k) = if is_given (row_in w k).statement.clauses.redefines then row_code (row_in w k).place.plain else suc k

-- the sibling that the REDEFINES of row k names, after the sibling `last`: its row and 1, or 0 for none
abbrev pub target_after : List ℕ → List Row → ℕ → ℕ → ℕ
target_after text w k last = target_from text (row_in w k).statement.clauses.redefines w last
