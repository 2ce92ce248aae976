-- One step of the listing's bytes, and how many they are.
-- Assumes nothing.
use Rattle.std.specs.Prelude.{Option, None, Some}
use Prim.Native.Nat.{ℕ, ◌+◌}
use mathlib.Core.Path.{◌≡◌, refl}
use mathlib.Core.List.{[], ◌++◌}
use native.Mathlib.Omega.{arith}
use lib.ListN.{length, length-append}
use Rattle.definition.specs.declared.Span.{Span}
use Rattle.definition.specs.declared.FieldKind.{FieldKind}
use Rattle.definition.specs.declared.Entry.{Entry}
use Rattle.definition.specs.Fold.{Entries, end, entry}
use Rattle.definition.specs.Listing.{members#, occurs_bytes, details, entry_bytes, entries_bytes, listing}

pub bytes-none : entries_bytes end ≡ []
unfolding entries_bytes
bytes-none = refl

pub bytes-entry :
    (e : Entry) (members later : Entries) →
    entries_bytes (entry e members later) ≡ entry_bytes e (members# members) ++ (entries_bytes members ++ entries_bytes later)
unfolding entries_bytes
bytes-entry e members later = refl

-- ---------------------------------------------------------------- how many

-- what the kind adds to the 38 bytes of kind, name, offset, width, occurs, DEPENDING ON and REDEFINES
abbrev pub details# : FieldKind → ℕ
details# FieldKind.Text = 0
details# (FieldKind.Int signed sign) = 2
details# (FieldKind.Binary signed) = 1
details# (FieldKind.Decimal precision scale repr sign) = 4
details# (FieldKind.Edited precision scale signed) = 11
details# FieldKind.Group = 4
details# (FieldKind.Float bits) = 1

details-length : (k : FieldKind) (pic : Span) (n : ℕ) → length (details k pic n) ≡ details# k
details-length FieldKind.Text pic n = refl
details-length (FieldKind.Int signed sign) pic n = refl
details-length (FieldKind.Binary signed) pic n = refl
details-length (FieldKind.Decimal precision scale repr sign) pic n = refl
details-length (FieldKind.Edited precision scale signed) pic n = refl
details-length FieldKind.Group pic n = refl
details-length (FieldKind.Float bits) pic n = refl

occurs-length : (o : Option ℕ) → length (occurs_bytes o) ≡ 5
occurs-length None = refl
occurs-length (Some n) = refl

pub entry_length : (e : Entry) (n : ℕ) → length (entry_bytes e n) ≡ 38 + details# e.kind
unfolding entry_bytes
entry_length e n = simp length-append (omega (arith, occurs-length e.occurs, details-length e.kind e.picture n))

pub listing-length : (es : Entries) → length (listing es) ≡ 10 + length (entries_bytes es)
unfolding listing
listing-length es = simp length-append (omega arith)
