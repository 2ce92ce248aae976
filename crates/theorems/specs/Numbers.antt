-- The numbers that a caller meets: of refusals, kinds, signs and storages, and the limits.
-- Assumes nothing.
use Rattle.std.specs.Prelude.{ℕ, ◌≡◌, Bool, List, [], ◌∷◌, map}
use Rattle.definition.specs.declared.SignKind.{SignKind}
use Rattle.definition.specs.declared.NumRepr.{NumRepr}
use Rattle.definition.specs.declared.FieldKind.{FieldKind}
use Rattle.definition.specs.declared.Refusal.{Refusal}
use Rattle.definition.specs.Refusals.{refusal_number, refusal_position, refusal_needed}
use Rattle.definition.specs.Listing.{sign_byte, storage_byte, kind_byte}
use Rattle.definition.specs.Demand.{Among}
use Rattle.definition.specs.declared.TheConstants.{MOST_BYTES, LEAST_WORK, MOST_STATEMENTS, DEEPEST, MOST_SYMBOLS}
use Rattle.definition.specs.declared.TheConstants.{MOST_DIGITS, LONGEST_MASK, LARGEST, LARGEST_COUNT, MOST_ITEMS}
use Rattle.definition.specs.declared.TheConstants.{LEAST_WEIGHT, MOST_WEIGHT, FEWEST_IN_SET, MOST_IN_SET}

-- a refusal, and what is told of it: its number, a position, and the length that the output should have had
pub record Row : Type 0 where
  pub refusal : Refusal
  pub number : ℕ
  pub position : ℕ
  pub needed : ℕ

abbrev pub row : Refusal → ℕ → ℕ → ℕ → Row
row r number position needed = record { refusal = r; number = number; position = position; needed = needed }

-- all refusals, about the position p, and 31 with the length n
abbrev pub refusals : ℕ → ℕ → List Row
refusals p n =
    row Refusal.TextTooLong 1 0 0
    ∷ row (Refusal.WideByte p) 2 p 0
    ∷ row Refusal.WorkTooShort 3 0 0
    ∷ row (Refusal.BadLevel p) 10 p 0
    ∷ row (Refusal.BadCount p) 11 p 0
    ∷ row (Refusal.BadBound p) 12 p 0
    ∷ row (Refusal.NoDependingName p) 13 p 0
    ∷ row (Refusal.TooManyStatements p) 14 p 0
    ∷ row (Refusal.TooDeep p) 20 p 0
    ∷ row (Refusal.NoPicture p) 21 p 0
    ∷ row (Refusal.UnclosedRepeat p) 22 p 0
    ∷ row (Refusal.BadRepeat p) 23 p 0
    ∷ row (Refusal.TooManySymbols p) 24 p 0
    ∷ row (Refusal.BadSymbol p) 25 p 0
    ∷ row (Refusal.MixedPicture p) 26 p 0
    ∷ row (Refusal.TooLong p) 27 p 0
    ∷ row (Refusal.NoTarget p) 28 p 0
    ∷ row (Refusal.TooLarge p) 29 p 0
    ∷ row (Refusal.StartsBeforeBase p) 30 p 0
    ∷ row (Refusal.OutputTooShort n) 31 0 n
    ∷ row Refusal.Overlaid 40 0 0
    ∷ row Refusal.OutsideRecord 41 0 0
    ∷ row Refusal.RecordTooShort 42 0 0
    ∷ row (Refusal.UnclosedLiteral p) 50 p 0
    ∷ row (Refusal.BadIndicator p) 51 p 0
    ∷ row (Refusal.FloatWithPicture p) 52 p 0
    ∷ row Refusal.NoSuchEntry 53 0 0
    ∷ row Refusal.NotASet 56 0 0
    ∷ row Refusal.NoCommonKey 57 0 0
    ∷ row Refusal.WrongItems 58 0 0
    ∷ row Refusal.BadWeight 59 0 0
    ∷ row Refusal.NoBudget 60 0 0
    ∷ []

abbrev pub numbers_of : Row → List ℕ
numbers_of r = refusal_number r.refusal ∷ refusal_position r.refusal ∷ refusal_needed r.refusal ∷ []

abbrev pub columns : Row → List ℕ
columns r = r.number ∷ r.position ∷ r.needed ∷ []

abbrev pub refusal_of : Row → Refusal
refusal_of r = r.refusal

-- each is told so, and there are no others
pub record RefusalNumbers : Type 0 where
  pub each : (p n : ℕ) → map numbers_of (refusals p n) ≡ map columns (refusals p n)
  pub all : (r : Refusal) → (p : ℕ) × (n : ℕ) × Among r (map refusal_of (refusals p n))

-- of kinds of entries, signs and storages
pub record KindNumbers : Type 0 where
  pub text : kind_byte FieldKind.Text ≡ 1
  pub int : (signed : Bool) (sign : SignKind) → kind_byte (FieldKind.Int signed sign) ≡ 2
  pub binary : (signed : Bool) → kind_byte (FieldKind.Binary signed) ≡ 3
  pub decimal :
      (precision scale : ℕ) (repr : NumRepr) (sign : SignKind) →
      kind_byte (FieldKind.Decimal precision scale repr sign) ≡ 4
  pub edited : (precision scale : ℕ) (signed : Bool) → kind_byte (FieldKind.Edited precision scale signed) ≡ 5
  pub group : kind_byte FieldKind.Group ≡ 6
  pub float : (bits : ℕ) → kind_byte (FieldKind.Float bits) ≡ 7
  pub signs :
      map sign_byte (SignKind.Unsigned ∷ SignKind.Embedded ∷ SignKind.LeadingSeparate ∷ SignKind.TrailingSeparate ∷ [])
      ≡ 0 ∷ 1 ∷ 2 ∷ 3 ∷ []
  pub storages : map storage_byte (NumRepr.Display ∷ NumRepr.Comp3 ∷ NumRepr.Zoned ∷ []) ≡ 0 ∷ 1 ∷ 2 ∷ []

-- the limits, in the rule books' numbers
pub record Limits : Type 0 where
  pub text : MOST_BYTES ≡ 65535
  pub work : LEAST_WORK ≡ 16384
  pub statements : MOST_STATEMENTS ≡ 800
  pub levels : DEEPEST ≡ 64
  pub symbols : MOST_SYMBOLS ≡ 65535
  pub digits : MOST_DIGITS ≡ 31
  pub mask : LONGEST_MASK ≡ 255
  pub record-length : LARGEST ≡ 2147483647
  pub count : LARGEST_COUNT ≡ 2147483647
  pub items : MOST_ITEMS ≡ 16
  pub least-weight : LEAST_WEIGHT ≡ 1
  pub most-weight : MOST_WEIGHT ≡ 1000
  pub smallest-set : FEWEST_IN_SET ≡ 2
  pub largest-set : MOST_IN_SET ≡ 16
