-- The numbers of a kind. The listing's numbers of kinds, signs and storages are the
-- definition's (`Listing`).
-- Assumes nothing.
use Rattle.std.specs.Prelude.{ℕ, Bool, eqb, if◌then◌else◌}
use Rattle.definition.specs.declared.SignKind.{SignKind}
use Rattle.definition.specs.declared.NumRepr.{NumRepr}
use Rattle.definition.specs.declared.FieldKind.{FieldKind}
use Rattle.definition.specs.Listing.{flag, sign_byte, storage_byte}
use Rattle.rows.specs.declared.kinds.KindNumbers.{KindNumbers}

-- a flag from its number
abbrev pub flag_at : ℕ → Bool
flag_at n = eqb n 1

-- a sign from its number
abbrev pub sign_at : ℕ → SignKind
sign_at n =
    if eqb n 1 then SignKind.Embedded
    else if eqb n 2 then SignKind.LeadingSeparate
    else if eqb n 3 then SignKind.TrailingSeparate
    else SignKind.Unsigned

-- a storage from its number
abbrev pub storage_at : ℕ → NumRepr
storage_at n = if eqb n 1 then NumRepr.Comp3 else if eqb n 2 then NumRepr.Zoned else NumRepr.Display

-- ---------------------------------------------------------------- kinds

-- the kind's own number, and those of what it holds
abbrev pub kind_numbers : ℕ → ℕ → ℕ → ℕ → ℕ → ℕ → KindNumbers
kind_numbers kind signed sign precision scale storage =
    record { kind = kind; signed = signed; sign = sign; precision = precision; scale = scale; storage = storage }

-- the numbers of a kind, each 0 where it has none; a float's precision is its bits
abbrev pub numbers_of : FieldKind → KindNumbers
numbers_of FieldKind.Text = kind_numbers 1 0 0 0 0 0
numbers_of (FieldKind.Int signed sign) = kind_numbers 2 (flag signed) (sign_byte sign) 0 0 0
numbers_of (FieldKind.Binary signed) = kind_numbers 3 (flag signed) 0 0 0 0
numbers_of (FieldKind.Decimal precision scale repr sign) =
    kind_numbers 4 0 (sign_byte sign) precision scale (storage_byte repr)
numbers_of (FieldKind.Edited precision scale signed) = kind_numbers 5 (flag signed) 0 precision scale 0
numbers_of FieldKind.Group = kind_numbers 6 0 0 0 0 0
numbers_of (FieldKind.Float bits) = kind_numbers 7 0 0 bits 0 0
