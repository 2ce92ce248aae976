-- What laying a list, or one item of it, in the rows of the table leads to, and the room that it takes.
-- Assumes nothing.
use Rattle.std.specs.Prelude.{ℕ, suc, max, ◌-◌, ◌≤◌, ◌<◌, ◌≡◌, List, length, set}
use Rattle.definition.specs.declared.Refusal.{Refusal}
use Rattle.definition.specs.declared.Entry.{Entry}
use Rattle.definition.specs.declared.Pictured.{Pictured}
use Rattle.definition.specs.declared.Statement.{Statement}
use Rattle.definition.specs.Basic.{Answer, Err, Ok, ◌>>=◌}
use Rattle.definition.specs.Tree.{Forest}
use Rattle.definition.specs.Storage.{place_alignment, alignment}
use Rattle.definition.specs.Fold.{end, entry, entry_end, fold_check}
use Rattle.definition.specs.Layout.{shallow, advance, Laid, lay}
use Rattle.rows.specs.declared.Row.{Row}
use Rattle.rows.specs.Rows.{row_of_code, row_in, statement_at}
use Rattle.layout.specs.Places.{placed, put_places, rows_forest}
use Rattle.layout.specs.Children.{BelowCounted}
use Rattle.layout.specs.Targets.{seen_at, bases_at, base_after, plain_after, target_after}
use Rattle.layout.specs.Fingerprints.{Fingerprinted}
use Rattle.layout.specs.declared.Beginning.{Beginning}
use Rattle.layout.specs.declared.LaidItem.{LaidItem}
use Rattle.layout.specs.declared.LaidList.{LaidList}
use Rattle.layout.specs.Bare.{place_multiple, width_multiple, starts, ItemLaid, placed_entry, bare_item}

-- ---------------------------------------------------------------- a list laid in the table

-- a refusal, or what was laid and the table
abbrev pub Outcome : Type 0 → Type 0
Outcome A = Answer (A × List Row)

-- for a list: a refusal, or the width of the list, the largest alignment in it, what its check for 30 says, and the table
abbrev pub stopped : Refusal → Outcome LaidList
stopped r = Err r

abbrev pub ready : ℕ → ℕ → Answer (Unit {0}) → List Row → Outcome LaidList
ready width largest checked w = Ok (record { width = width; alignment = largest; checked = checked }, w)

-- what a list's answer leads to, in the rows from k on, after the sibling `last`, where the largest alignment is this and
-- the earlier siblings' check says this
abbrev pub after : List ℕ → List Row → ℕ → ℕ → ℕ → Answer (Unit {0}) → Answer Laid → Outcome LaidList
after text w k last largest checked (Err r) = stopped r
after text w k last largest checked (Ok l) =
    ready l.width largest (checked >>= λ _. fold_check text (bases_at w last) l.entries)
    (put_places text w k last l.entries)

-- the rest of a list, rows i to before `to`, laid after the sibling `last`; `largest` is the largest alignment so far
abbrev pub lay_rest : List ℕ → List Row → ℕ → ℕ → ℕ → ℕ → ℕ → ℕ → ℕ → ℕ → Answer (Unit {0}) → Outcome LaidList
lay_rest text w i to depth base last cursor reach largest checked =
    let f = rows_forest w i to in
    after text w i last (max largest (alignment text f)) checked (lay text depth base (seen_at w last) cursor reach f)

-- a whole list, which starts at the byte `base` of the record
abbrev pub lay_table : List ℕ → List Row → ℕ → ℕ → ℕ → ℕ → Outcome LaidList
lay_table text w from to depth base = lay_rest text w from to depth base 0 0 0 1 (Ok tt)

-- the list below an item of a list of that depth: 20, then the list and its check
abbrev pub checked_list : LaidList × List Row → Outcome LaidList
checked_list l = l.0.checked >>= λ _. Ok l

unfoldable pub lay_inner : List ℕ → List Row → ℕ → ℕ → ℕ → ℕ → Outcome LaidList
lay_inner text w from to depth base =
    shallow (suc depth) (rows_forest w from to) >>= λ _. lay_table text w from to (suc depth) base >>= checked_list

-- ---------------------------------------------------------------- an item laid in the table

-- a refusal, or the cursor after the item, where it ends, the largest alignment in it and the table
abbrev pub halted : Refusal → Outcome LaidItem
halted r = Err r

abbrev pub placing : ℕ → ℕ → ℕ → List Row → Outcome LaidItem
placing cursor reach largest w = Ok (record { cursor = cursor; end = reach; alignment = largest }, w)

-- the item of row i with its members' places
abbrev pub after_item : List ℕ → List Row → ℕ → ℕ → ℕ → ℕ → Answer ItemLaid → Outcome LaidItem
after_item text w i last cursor largest (Err r) = halted r
after_item text w i last cursor largest (Ok x) =
    placing (advance cursor x.own) (entry_end x.own) largest (put_places text w i last (entry x.own x.members end))

-- the largest alignment in an item, its own and those of its list
abbrev pub item_alignment : List ℕ → Statement → Forest → ℕ
item_alignment text s kids = max (place_alignment text s kids) (alignment text kids)

-- row i, whose children are the rows up to j, laid after the sibling `last`
abbrev pub lay_item : List ℕ → List Row → ℕ → ℕ → ℕ → ℕ → ℕ → ℕ → Outcome LaidItem
lay_item text w i j depth base last cursor =
    let kids = rows_forest w (suc i) j in
    after_item text w i last cursor (item_alignment text (statement_at w i) kids)
    (bare_item text depth base (seen_at w last) cursor (statement_at w i) kids)

-- ---------------------------------------------------------------- an item placed

-- what was found of row i among its earlier siblings, from `last` back
pub record Found (text : List ℕ) (w : List Row) (i last : ℕ) (b : Beginning) : Type 0 where
  pub target : b.target ≡ row_of_code (target_after text w i last)
  pub base : b.base ≡ row_of_code (base_after text w i last)
  pub plain : b.plain ≡ row_of_code (plain_after w last)

-- where it starts, too
pub record Begun (text : List ℕ) (w : List Row) (i multiple base last cursor : ℕ) (b : Beginning) : Type 0 where
  pub starts : starts text (statement_at w i) multiple (seen_at w last) base cursor ≡ Ok b.offset
  pub found : Found text w i last b

-- the item of row i alone
abbrev pub after_own : List Row → ℕ → ℕ → ℕ → Beginning → ℕ → Answer Entry → Outcome LaidItem
after_own w i last cursor b largest (Err r) = halted r
after_own w i last cursor b largest (Ok e) =
    placing (advance cursor e) (entry_end e) largest (set w i (placed (row_in w i) (i - last) b.base b.plain b.target e))

-- row i, what it holds and where it starts known and the rows below it laid, placed after the sibling `last`
abbrev pub place_row : List Row → ℕ → ℕ → ℕ → Beginning → Pictured → LaidList → Outcome LaidItem
place_row w i last cursor b c inner =
    let s = statement_at w i in
    after_own w i last cursor b (max (place_multiple s c) inner.alignment)
    (placed_entry s c cursor b.offset inner.width (width_multiple s inner.alignment))

-- ---------------------------------------------------------------- what the code answers

-- what an answer says, with the table as the call leaves it; after a refusal its contents are left open
abbrev pub item_of : Answer LaidItem → List Row → Outcome LaidItem
item_of (Ok a) w = placing a.cursor a.end a.alignment w
item_of (Err r) w = halted r

-- the same for a list
abbrev pub list_of : Answer LaidList → List Row → Outcome LaidList
list_of (Ok a) w = ready a.width a.alignment a.checked w
list_of (Err r) w = stopped r

-- the table has rows up to `to`, with the fingerprints of their names, and those of the list from `from` on count the
-- rows below them
pub record Room (text : List ℕ) (w : List Row) (from to : ℕ) : Type 0 where
  pub fits : to ≤ length w
  pub small : to < 65536
  pub fingerprinted : Fingerprinted text w to
  pub counted : BelowCounted w from (rows_forest w from to)
