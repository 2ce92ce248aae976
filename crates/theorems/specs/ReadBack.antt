-- A reader of the layout listing's format, and what it gives: each entry of the listing with its members, and nothing
-- else, however wide names and numbers are.
-- Assumes nothing.
use Rattle.std.specs.Prelude.{ℕ, zero, suc, ◌+◌, ◌*◌, Bool, Option, None, Some, List, [], length, get_or, drop, eqb, if◌then◌else◌}
use Rattle.definition.specs.declared.Span.{Span}
use Rattle.definition.specs.declared.SignKind.{SignKind}
use Rattle.definition.specs.declared.NumRepr.{NumRepr}
use Rattle.definition.specs.declared.FieldKind.{FieldKind}
use Rattle.definition.specs.declared.Entry.{Entry}
use Rattle.definition.specs.Basic.{absent}
use Rattle.definition.specs.Fold.{Entries, end, entry}
use Rattle.definition.specs.Record.{record_length, variable}

-- what a listing shows of an entry; of an edited one its picture too
pub record Shown : Type 0 where
  pub kind : FieldKind
  pub name : Span
  pub offset : ℕ
  pub width : ℕ
  pub occurs : Option ℕ
  pub depending : Span
  pub redefines : Span
  pub picture : Span

-- a list of entries: nothing, or one with its members and those after it
pub data Tree : Type 0 where
  none : Tree
  node : Shown → Tree → Tree → Tree

-- ---------------------------------------------------------------- the reader

-- a byte; a number of four bytes; a start and a length
abbrev pub byte : List ℕ → ℕ → ℕ
byte bs i = get_or bs i 0

abbrev pub number : List ℕ → ℕ → ℕ
number bs i = byte bs i + byte bs (i + 1) * 256 + byte bs (i + 2) * 65536 + byte bs (i + 3) * 16777216

abbrev pub place : List ℕ → ℕ → Span
place bs i = record { start = number bs i; len = number bs (i + 4) }

abbrev pub sign : ℕ → SignKind
sign n =
    if eqb n 0 then SignKind.Unsigned
    else if eqb n 1 then SignKind.Embedded
    else if eqb n 2 then SignKind.LeadingSeparate
    else SignKind.TrailingSeparate

abbrev pub storage : ℕ → NumRepr
storage n = if eqb n 0 then NumRepr.Display else if eqb n 1 then NumRepr.Comp3 else NumRepr.Zoned

-- the kind by its number, and by the bytes from byte 38 on; how many these are
abbrev pub kind : List ℕ → FieldKind
kind bs =
    let k = byte bs 0 in
    if eqb k 1 then FieldKind.Text
    else if eqb k 2 then FieldKind.Int (eqb (byte bs 38) 1) (sign (byte bs 39))
    else if eqb k 3 then FieldKind.Binary (eqb (byte bs 38) 1)
    else if eqb k 4 then FieldKind.Decimal (byte bs 38) (byte bs 39) (storage (byte bs 40)) (sign (byte bs 41))
    else if eqb k 5 then FieldKind.Edited (byte bs 38) (byte bs 39) (eqb (byte bs 40) 1)
    else if eqb k 6 then FieldKind.Group
    else FieldKind.Float (byte bs 38)

abbrev pub details# : ℕ → ℕ
details# k =
    if eqb k 1 then 0
    else if eqb k 2 then 2
    else if eqb k 3 then 1
    else if eqb k 4 then 4
    else if eqb k 5 then 11
    else if eqb k 6 then 4
    else 1

-- name, offset, width, occurs, DEPENDING ON and REDEFINES stand at the same bytes in every kind
abbrev pub shown : List ℕ → Shown
shown bs =
    record {
      kind = kind bs;
      name = place bs 1;
      offset = number bs 9;
      width = number bs 13;
      occurs = if eqb (byte bs 17) 1 then Some (number bs 18) else None;
      depending = place bs 22;
      redefines = place bs 30;
      picture = if eqb (byte bs 0) 5 then place bs 41 else absent;
    }

-- n entries, each with its members before the next, and the bytes after them; `fuel` is a number of steps that suffices
abbrev pub members : List ℕ → ℕ
members bs = if eqb (byte bs 0) 6 then number bs 38 else 0

unfoldable pub read : ℕ → ℕ → List ℕ → Tree × List ℕ
read zero n bs = (none, bs)
read (suc fuel) zero bs = (none, bs)
read (suc fuel) (suc n) bs =
    let inner = read fuel (members bs) (drop (38 + details# (byte bs 0)) bs) in
    let later = read fuel n inner.1 in
    (node (shown bs) inner.0 later.0, later.1)

-- the head: record length, whether it is variable, and the entries at the top
pub record Listed : Type 0 where
  pub kind : ℕ
  pub record_length : ℕ
  pub variable : Bool
  pub entries : Tree
  pub behind : List ℕ

abbrev pub read_listing : List ℕ → Listed
read_listing bs =
    let r = read (suc (length bs)) (number bs 6) (drop 10 bs) in
    record {
      kind = byte bs 0;
      record_length = number bs 1;
      variable = eqb (byte bs 5) 1;
      entries = r.0;
      behind = r.1;
    }

-- ---------------------------------------------------------------- what it gives

abbrev pub picture_of : FieldKind → Span → Span
picture_of FieldKind.Text w = absent
picture_of (FieldKind.Int signed sign) w = absent
picture_of (FieldKind.Binary signed) w = absent
picture_of (FieldKind.Decimal precision scale repr sign) w = absent
picture_of (FieldKind.Edited precision scale signed) w = w
picture_of FieldKind.Group w = absent
picture_of (FieldKind.Float bits) w = absent

abbrev pub shown_of : Entry → Shown
shown_of e =
    record {
      kind = e.kind;
      name = e.name;
      offset = e.offset;
      width = e.width;
      occurs = e.occurs;
      depending = e.depending;
      redefines = e.redefines;
      picture = picture_of e.kind e.picture;
    }

abbrev pub tree_of : Entries → Tree
tree_of end = none
tree_of (entry e members later) = node (shown_of e) (tree_of members) (tree_of later)

-- the listing, read back
abbrev pub listed : Entries → Listed
listed es =
    record {
      kind = 0;
      record_length = record_length es;
      variable = variable es;
      entries = tree_of es;
      behind = [];
    }
