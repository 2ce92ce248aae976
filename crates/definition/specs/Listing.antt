-- The bytes of the layout listing: one byte of kind, then a body whose length the kind fixes. Numbers are
-- little-endian, 4 bytes unless said.
-- Assumes nothing.
use Rattle.std.specs.Prelude.{ℕ, suc, Bool, true, false, List, [], ◌∷◌, ◌++◌, Option, None, Some}
use Rattle.definition.specs.declared.Span.{Span}
use Rattle.definition.specs.declared.SignKind.{SignKind}
use Rattle.definition.specs.declared.NumRepr.{NumRepr}
use Rattle.definition.specs.declared.FieldKind.{FieldKind}
use Rattle.definition.specs.declared.Entry.{Entry}
use Rattle.definition.specs.Basic.{le4}
use Rattle.definition.specs.Fold.{Entries, end, entry}
use Rattle.definition.specs.Record.{record_length, variable}

abbrev pub flag : Bool → ℕ
flag false = 0
flag true = 1

abbrev pub sign_byte : SignKind → ℕ
sign_byte SignKind.Unsigned = 0
sign_byte SignKind.Embedded = 1
sign_byte SignKind.LeadingSeparate = 2
sign_byte SignKind.TrailingSeparate = 3

abbrev pub storage_byte : NumRepr → ℕ
storage_byte NumRepr.Display = 0
storage_byte NumRepr.Comp3 = 1
storage_byte NumRepr.Zoned = 2

-- a start and a length; absent places hold 0
abbrev pub span_bytes : Span → List ℕ
span_bytes w = le4 w.start ++ le4 w.len

-- occurs mark (1 byte) and occurs count; OCCURS 0 has mark 1
abbrev pub occurs_bytes : Option ℕ → List ℕ
occurs_bytes None = 0 ∷ le4 0
occurs_bytes (Some n) = 1 ∷ le4 n

abbrev pub kind_byte : FieldKind → ℕ
kind_byte FieldKind.Text = 1
kind_byte (FieldKind.Int signed sign) = 2
kind_byte (FieldKind.Binary signed) = 3
kind_byte (FieldKind.Decimal precision scale repr sign) = 4
kind_byte (FieldKind.Edited precision scale signed) = 5
kind_byte FieldKind.Group = 6
kind_byte (FieldKind.Float bits) = 7

-- how many entries a list has, not counting those below them
abbrev pub members# : Entries → ℕ
members# end = 0
members# (entry e members later) = suc (members# later)

-- what follows the 37 bytes that every kind has
abbrev pub details : FieldKind → Span → ℕ → List ℕ
details FieldKind.Text pic n = []
details (FieldKind.Int signed sign) pic n = flag signed ∷ sign_byte sign ∷ []
details (FieldKind.Binary signed) pic n = flag signed ∷ []
details (FieldKind.Decimal precision scale repr sign) pic n = precision ∷ scale ∷ storage_byte repr ∷ sign_byte sign ∷ []
details (FieldKind.Edited precision scale signed) pic n = precision ∷ scale ∷ flag signed ∷ span_bytes pic
details FieldKind.Group pic n = le4 n
details (FieldKind.Float bits) pic n = bits ∷ []

-- an entry with n members: name start and length; offset; width; occurs; DEPENDING ON name and REDEFINES name, start
-- and length; details
unfoldable pub entry_bytes : Entry → ℕ → List ℕ
entry_bytes e n =
    kind_byte e.kind ∷ span_bytes e.name ++ le4 e.offset ++ le4 e.width ++ occurs_bytes e.occurs
    ++ span_bytes e.depending ++ span_bytes e.redefines ++ details e.kind e.picture n

-- a group is followed by its members, in order
unfoldable pub entries_bytes : Entries → List ℕ
entries_bytes end = []
entries_bytes (entry e members later) = entry_bytes e (members# members) ++ (entries_bytes members ++ entries_bytes later)

-- kind 0, first and once: record length, variable (1 byte), number of top-level entries; then the entries
unfoldable pub listing : Entries → List ℕ
listing es = 0 ∷ le4 (record_length es) ++ (flag (variable es) ∷ le4 (members# es)) ++ entries_bytes es
