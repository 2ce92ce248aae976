-- What the bytes of a listing say, where they are read back: numbers, places, and an entry's kind and body.
-- Assumes nothing.
use Rattle.std.specs.Prelude.{ℕ, ◌+◌, Bool, not, List, eqb, ltb, leb, ◌&&◌, get_or, take, drop, length, codes}
use Rattle.std.specs.Prelude.{Option, None, Some, if◌then◌else◌}
use Rattle.std.specs.Int.{w32, from_le_bytes}
use Rattle.printing.specs.declared.TextPart.{TextPart}
use Rattle.printing.specs.declared.Kind.{Kind}
use Rattle.printing.specs.declared.Kind.TheVariants.{Text, Int, Binary, Decimal, Edited, Group, Float}
use Rattle.printing.specs.declared.ListedEntry.{ListedEntry}
use Rattle.printing.specs.declared.Head.{Head}

-- ---------------------------------------------------------------- parts of a text

abbrev pub is_given : TextPart → Bool
is_given p = ltb 0 p.len

-- a part is given, and lies in the text
abbrev pub stands : List ℕ → TextPart → Bool
stands text p = is_given p && leb (p.start + p.len) (length text)

-- ---------------------------------------------------------------- numbers

-- the number in the four bytes from a place on, and 0 where they are not all there
abbrev pub four : List ℕ → ℕ → ℕ
four bytes at = if leb (at + 4) (length bytes) then from_le_bytes w32 (take 4 (drop at bytes)) else 0

-- the start and the length in eight bytes, and no part where they are not all there
abbrev pub part : List ℕ → ℕ → TextPart
part bytes at =
    if leb (at + 8) (length bytes) then record { start = four bytes at; len = four bytes (at + 4) }
    else record { start = 0; len = 0 }

-- ---------------------------------------------------------------- the head

-- how many bytes a record has, the fewest where it varies; whether it does; and how many entries stand at the top,
-- behind kind 0
abbrev pub head : List ℕ → Head
head bytes = record {
  length = four bytes 1;
  varies = not (eqb (get_or bytes 5 0) 0);
  top = four bytes 6;
}

-- ---------------------------------------------------------------- entries

-- the kind that a byte stands for
abbrev pub kind : ℕ → Option Kind
kind n =
    if eqb n 1 then Some Text else if eqb n 2 then Some Int else if eqb n 3 then Some Binary
    else if eqb n 4 then Some Decimal else if eqb n 5 then Some Edited else if eqb n 6 then Some Group
    else if eqb n 7 then Some Float else None

-- how many bytes an entry of a kind has, its kind's byte included
abbrev pub size : Kind → ℕ
size Text = 38
size Int = 40
size Binary = 39
size Decimal = 42
size Edited = 49
size Group = 42
size Float = 39

-- what is printed of a kind
abbrev pub name : Kind → List ℕ
name Text = codes "text"
name Int = codes "int"
name Binary = codes "bin"
name Decimal = codes "dec"
name Edited = codes "edit"
name Group = codes "group"
name Float = codes "float"

-- how many members a group has
abbrev pub members : Kind → List ℕ → Option ℕ
members Group bytes = Some (four bytes 38)
members k bytes = None

-- the entry of a kind that these bytes begin with
abbrev pub entry : Kind → List ℕ → ListedEntry
entry k bytes = record {
  kind = k;
  name = part bytes 1;
  offset = four bytes 9;
  width = four bytes 13;
  occurs = if eqb (get_or bytes 17 0) 0 then None else Some (four bytes 18);
  depending = part bytes 22;
  redefines = part bytes 30;
  members = members k bytes;
}

-- it, if the kind is one and all of it is there
abbrev pub entry_of : Option Kind → List ℕ → Option ListedEntry
entry_of None bytes = None
entry_of (Some k) bytes = if leb (size k) (length bytes) then Some (entry k bytes) else None

abbrev pub first_entry : List ℕ → Option ListedEntry
first_entry bytes = entry_of (kind (get_or bytes 0 0)) bytes

-- what is left after it
abbrev pub behind : Option ListedEntry → List ℕ → List ℕ
behind None bytes = bytes
behind (Some e) bytes = drop (size e.kind) bytes
