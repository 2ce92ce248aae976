-- The bytes that the listing has of a record and of an entry, part by part, as they are put.
-- Assumes nothing.
use Rattle.std.specs.Prelude.{ℕ, Bool, List, ◌∷◌, ◌++◌}
use Rattle.definition.specs.declared.Entry.{Entry}
use Rattle.definition.specs.Basic.{le4}
use Rattle.definition.specs.Listing.{flag, span_bytes, kind_byte, occurs_bytes, details}
use Rattle.fold.specs.declared.listing.Line.{Line}

-- the record's head: kind 0, the record's length, whether that varies, how many entries stand at the top
abbrev pub head_bytes : ℕ → Bool → ℕ → List ℕ
head_bytes length variable top = 0 ∷ le4 length ++ (flag variable ∷ le4 top)

-- what the listing says of an entry
abbrev pub line_of : Entry → Line
line_of e =
    record {
      kind = e.kind;
      name = e.name;
      offset = e.offset;
      width = e.width;
      occurs = e.occurs;
      depending = e.depending;
      redefines = e.redefines;
      picture = e.picture;
    }

-- how that begins: its kind, name, offset and width
abbrev pub place_bytes : Line → List ℕ
place_bytes l = kind_byte l.kind ∷ span_bytes l.name ++ le4 l.offset ++ le4 l.width

-- all of it, with n members
unfoldable pub line_bytes : Line → ℕ → List ℕ
line_bytes l n =
    place_bytes l ++ occurs_bytes l.occurs ++ span_bytes l.depending ++ span_bytes l.redefines
    ++ details l.kind l.picture n
