-- One item of a list that is laid.
-- Assumes nothing.
use Rattle.std.specs.Prelude.{ℕ, suc, ◌+◌, ◌&&◌, not, List, [], if◌then◌else◌}
use Rattle.definition.specs.declared.Statement.{Statement}
use Rattle.definition.specs.declared.Entry.{Entry}
use Rattle.definition.specs.declared.Pictured.{Pictured}
use Rattle.definition.specs.declared.Refusal.{Refusal}
use Rattle.definition.specs.Basic.{is_given, fewest, Answer, Ok, ◌>>=◌, refuse_if, or_refuse}
use Rattle.definition.specs.Tree.{Forest}
use Rattle.definition.specs.Picture.{is_alignable}
use Rattle.definition.specs.Storage.{repeats, width_alignment}
use Rattle.definition.specs.Fold.{Entries, Place, find, fold_check}
use Rattle.definition.specs.Layout.{shallow, content, start, slack_from, entry_of, too_large, lay}

-- ---------------------------------------------------------------- alignment

-- what the place of an item is a multiple of, by what it holds
abbrev pub place_multiple : Statement → Pictured → ℕ
place_multiple s c = if s.clauses.sync && not (is_given s.clauses.redefines) && is_alignable c.kind then c.width else 1

-- what its width is a multiple of, by the largest alignment in its list
abbrev pub width_multiple : Statement → ℕ → ℕ
width_multiple s largest = if repeats s.clauses.occurs && not (is_given s.clauses.depending) then largest else 1

-- where an item starts whose place is a multiple of that
abbrev pub starts : List ℕ → Statement → ℕ → List Place → ℕ → ℕ → Answer ℕ
starts text s multiple seen base cursor =
    if is_given s.clauses.redefines then or_refuse (Refusal.NoTarget s.at) (find text s.clauses.redefines seen)
    else Ok (cursor + fewest multiple (base + cursor))

-- ---------------------------------------------------------------- an item

-- one item of such a list, and its members
pub record ItemLaid : Type 0 where
  pub own : Entry
  pub members : Entries

-- the entry of an item that starts at an offset, over a list so wide, whose width is a multiple of that
unfoldable pub placed_entry : Statement → Pictured → ℕ → ℕ → ℕ → ℕ → Answer Entry
placed_entry s c cursor offset inner multiple = do
  let e = entry_of s c offset (slack_from cursor s offset) inner (fewest multiple (c.width + inner))
  _ ← refuse_if (too_large e) (Refusal.TooLarge s.at)
  Ok e

-- one item: what it holds, where it starts, its inner list, and its entry (a list is its first item and the rest:
-- `ListLaws`)
unfoldable pub bare_item : List ℕ → ℕ → ℕ → List Place → ℕ → Statement → Forest → Answer ItemLaid
bare_item text depth base seen cursor s kids = do
  c ← content text s kids
  offset ← start text s kids seen base cursor
  _ ← shallow (suc depth) kids
  inner ← lay text (suc depth) (base + offset) [] 0 0 kids
  _ ← fold_check text [] inner.entries
  e ← placed_entry s c cursor offset inner.width (width_alignment text s kids)
  Ok (record { own = e; members = inner.entries })
