-- The entries as the owner rule places them: an entry's offset is the place that its sibling list has reached after the
-- earlier items and the entry's own slack, and a group is as wide as its first occurrence, slack at its end included.
-- Assumes nothing.
use Rattle.std.specs.Prelude.{ℕ, suc, ◌+◌, List, None}
use Rattle.definition.specs.declared.FieldKind.{FieldKind}
use Rattle.definition.specs.declared.Pictured.{Pictured}
use Rattle.definition.specs.declared.Statement.{Statement}
use Rattle.definition.specs.declared.Entry.{Entry}
use Rattle.definition.specs.Basic.{fewest}
use Rattle.definition.specs.Tree.{Forest, leaf, item}
use Rattle.definition.specs.Picture.{pictured}
use Rattle.definition.specs.Storage.{storage, place_alignment, width_alignment}
use Rattle.definition.specs.Fold.{Entries, end, entry}
use Rattle.definition.specs.Layout.{entry_of}
use Rattle.definition.specs.Owner.{extent, size, laid_item, laid}

-- kind and width of an item, the list of a group aside
abbrev pub content_of : List ℕ → Statement → Forest → Pictured
content_of text s leaf = storage text s
content_of text s (item t kids later) = pictured FieldKind.Group None 0

-- the entry of an item whose list lays so many bytes, after `place` bytes of its sibling list, which starts at the byte
-- `base` of the record
abbrev pub entry_at : List ℕ → ℕ → ℕ → Statement → Forest → ℕ → Entry
entry_at text base place s kids inner =
    let c = content_of text s kids in
    let slack = fewest (place_alignment text s kids) (base + place) in
    entry_of s c (place + slack) slack inner (fewest (width_alignment text s kids) (c.width + inner))

unfoldable pub placed : List ℕ → ℕ → ℕ → ℕ → Forest → Entries
placed text k base place leaf = end
placed text k base place (item s kids later) =
    let first = base + (place + fewest (place_alignment text s kids) (base + place)) in
    let own = laid_item text k (base + place) s kids (λ p. laid text (suc k) p kids) in
    entry
    (entry_at text base place s kids (extent (laid text (suc k) first kids)))
    (placed text (suc k) first 0 kids)
    (placed text (suc k + size kids) base (place + extent own) later)
