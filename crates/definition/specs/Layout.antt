-- Offsets: the entries of a sibling list, before it is folded: `layout_nodes` and `elementary` of the Rust.
-- Groups nest, and each sibling list counts from 0; slack is chosen from the static position in the record. An item
-- reserves width × count, count 1 without OCCURS; DEPENDING ON reserves 0. A group is as wide as the largest offset
-- plus reserved width in its list before folding, and the slack at its end.
-- A departure from COBOL: a REDEFINES may name any earlier sibling; `Storage` has those of alignment. As in COBOL now,
-- and otherwise than in the Rust: alignment goes on through groups, and a group with OCCURS has slack between its
-- occurrences.
-- Assumes nothing.
use Rattle.std.specs.Prelude.{ℕ, suc, ◌+◌, ◌-◌, max, Bool, false, ◌||◌, List, [], ◌∷◌, ltb, if◌then◌else◌, Option, None, Some}
use Rattle.definition.specs.declared.Span.{Span}
use Rattle.definition.specs.declared.NamedUsage.{NamedUsage}
use Rattle.definition.specs.declared.FieldKind.{FieldKind}
use Rattle.definition.specs.declared.Pictured.{Pictured}
use Rattle.definition.specs.declared.Statement.{Statement}
use Rattle.definition.specs.declared.Entry.{Entry}
use Rattle.definition.specs.declared.Refusal.{Refusal}
use Rattle.definition.specs.declared.TheConstants.{DEEPEST, LARGEST}
use Rattle.definition.specs.Basic.{absent, is_given, fewest, Answer, Ok, ◌>>=◌}
use Rattle.definition.specs.Basic.{refuse_if, or_refuse}
use Rattle.definition.specs.Tree.{Forest, leaf, item}
use Rattle.definition.specs.Picture.{pictured}
use Rattle.definition.specs.Storage.{elementary, place_alignment, width_alignment}
use Rattle.definition.specs.Fold.{Entries, end, entry, times, total, entry_end, Place, place_of, find}
use Rattle.definition.specs.Fold.{fold_check}

-- 20: a list too deep, at its first statement; record fields are depth 0
abbrev pub shallow : ℕ → Forest → Answer (Unit {0})
shallow depth leaf = Ok tt
shallow depth (item s kids later) = refuse_if (ltb DEEPEST depth) (Refusal.TooDeep s.at)

-- kind and width of an item, the list of a group aside: a group has no bytes but those of its list
abbrev pub content : List ℕ → Statement → Forest → Answer Pictured
content text s leaf = elementary text s
content text s (item t kids later) = Ok (pictured FieldKind.Group None 0)

-- where an item starts: with REDEFINES at the offset of the latest earlier sibling of that name (28), else at the
-- cursor, after the fewest bytes that align its place in the record. `seen` are the earlier siblings, the latest first,
-- and the list starts at the byte `base`
abbrev pub start : List ℕ → Statement → Forest → List Place → ℕ → ℕ → Answer ℕ
start text s kids seen base cursor =
    if is_given s.clauses.redefines then or_refuse (Refusal.NoTarget s.at) (find text s.clauses.redefines seen)
    else Ok (cursor + fewest (place_alignment text s kids) (base + cursor))

-- the slack directly before an item: the bytes from the cursor to the item, and none before a redefiner
abbrev pub slack_from : ℕ → Statement → ℕ → ℕ
slack_from cursor s offset = if is_given s.clauses.redefines then 0 else offset - cursor

-- the word that names a usage
abbrev pub word_of : Option NamedUsage → Span
word_of None = absent
word_of (Some u) = u.word

-- the entry of an item at an offset, after so much slack, whose list is `inner` bytes wide and is followed by so much
-- slack
abbrev pub entry_of : Statement → Pictured → ℕ → ℕ → ℕ → ℕ → Entry
entry_of s c offset slack inner slack_at_end =
    record {
      at = s.at;
      level = s.level;
      name = s.name;
      offset = offset;
      width = c.width + inner + slack_at_end;
      kind = c.kind;
      digits = c.digits;
      picture = s.clauses.picture;
      usage = word_of s.usage;
      sign = s.clauses.sign;
      occurs = s.clauses.occurs;
      depending = s.clauses.depending;
      redefines = s.clauses.redefines;
      over = s.clauses.redefines;
      slack = slack;
      slack_at_end = slack_at_end;
      folded = false;
    }

-- 29: kept count, aligned cursor, padded width, width × count or end above the largest number
abbrev pub too_large : Entry → Bool
too_large e =
    ltb LARGEST (times e.occurs) || ltb LARGEST e.offset || ltb LARGEST e.width || ltb LARGEST (total e)
    || ltb LARGEST (entry_end e)

-- the cursor after an entry: a REDEFINES never moves it
abbrev pub advance : ℕ → Entry → ℕ
advance cursor e = if is_given e.redefines then cursor else entry_end e

-- the entries of a list, with the lists below them, as the copybook has them before folding, and how wide the list is
pub record Laid : Type 0 where
  pub entries : Entries
  pub width : ℕ

-- the items of a list at a depth, which starts at the byte `base` of the record: a group's list where its first
-- occurrence does, or would. Of `base` only the remainder by 8 matters (`MovedLaws`, of the proofs, says so). `seen`
-- are the earlier siblings, the latest first; the cursor is where the next item starts; `reach` is the largest end so
-- far. A group's inner list, the fold's check included, comes after its 28 and before its 29
unfoldable pub lay : List ℕ → ℕ → ℕ → List Place → ℕ → ℕ → Forest → Answer Laid
lay text depth base seen cursor reach leaf = Ok (record { entries = end; width = reach })
lay text depth base seen cursor reach (item s kids later) = do
  c ← content text s kids
  offset ← start text s kids seen base cursor
  _ ← shallow (suc depth) kids
  inner ← lay text (suc depth) (base + offset) [] 0 0 kids
  _ ← fold_check text [] inner.entries
  let slack_at_end = fewest (width_alignment text s kids) (c.width + inner.width)
  let e = entry_of s c offset (slack_from cursor s offset) inner.width slack_at_end
  _ ← refuse_if (too_large e) (Refusal.TooLarge s.at)
  l ← lay text depth base (place_of e ∷ seen) (advance cursor e) (max reach (entry_end e)) later
  Ok (record { entries = entry e inner.entries l.entries; width = l.width })
