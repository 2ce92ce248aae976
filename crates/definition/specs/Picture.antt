-- The picture answer: kind and width of a picture with a usage and a sign: `parse_pic` of the Rust; and the mask of an
-- edited picture. Symbols are repeated by `(n)`, then judged one by one: X A text; 9 Z * digit; P fraction digit; V and
-- `.` start the fraction; S sign; `, / B 0 $ + - CR DB` editing, as Z, * and `.` are too; `+ - CR DB` also mean signed,
-- as S does. Refusals 22 to 27 carry the position that the caller names.
-- P holds no byte: the storage width counts digits without it, the edited width the mask without it.
-- Departures from COBOL: symbols may stand in any order and number; P is a fraction digit wherever it stands.
-- Assumes nothing.
use Rattle.std.specs.Prelude.{ℕ, zero, suc, ◌+◌, ◌-◌, ◌/◌, max, Bool, true, false, ◌&&◌, ◌||◌, not, List, [], ◌∷◌, ◌++◌, reverse, eqb, leb, ltb, length, replicate, if◌then◌else◌}
use Prim.Native.String.{String}
use Rattle.std.specs.Prelude.{Option, None, Some}
use Rattle.definition.specs.declared.Usage.{Usage}
use Rattle.definition.specs.declared.SignKind.{SignKind}
use Rattle.definition.specs.declared.NumRepr.{NumRepr}
use Rattle.definition.specs.declared.FieldKind.{FieldKind}
use Rattle.definition.specs.declared.Digits.{Digits}
use Rattle.definition.specs.declared.Pictured.{Pictured}
use Rattle.definition.specs.declared.Refusal.{Refusal}
use Rattle.definition.specs.declared.TheConstants.{MOST_SYMBOLS, MOST_DIGITS, LONGEST_MASK}
use Rattle.definition.specs.Basic.{is, among, white, upper, count, Answer, Ok, ◌>>=◌}
use Rattle.definition.specs.Basic.{refuse_if, or_refuse}

-- ---------------------------------------------------------------- repeats

-- without the white space in front, and without that on both sides
unfoldable pub trim_start : List ℕ → List ℕ
trim_start [] = []
trim_start (b ∷ bs) = if white b then trim_start bs else b ∷ bs

unfoldable pub trim : List ℕ → List ℕ
trim bs = reverse (trim_start (reverse (trim_start bs)))

-- what stands before the first `)`, if there is one
abbrev pub in_front : ℕ → Option (List ℕ) → Option (List ℕ)
in_front b None = None
in_front b (Some l) = Some (b ∷ l)

unfoldable pub before_close : List ℕ → Option (List ℕ)
before_close [] = None
before_close (b ∷ bs) = if is ")" b then Some [] else in_front b (before_close bs)

-- how often a symbol stands, and how many bytes say so: `(n)` after it, or nothing
unfoldable pub repeat : ℕ → List ℕ → Answer (ℕ × ℕ)
repeat at [] = Ok (1, 0)
repeat at (b ∷ bs) =
    elim (is "(" b) [
      | true ↦ do
        l ← or_refuse (Refusal.UnclosedRepeat at) (before_close bs)
        n ← or_refuse (Refusal.BadRepeat at) (count (trim l))
        Ok (n, length l + 2)
      | false ↦ Ok (1, 0)
    ]

-- the symbols, in upper case, each as often as it stands: `skip` bytes are passed over, and `n` symbols stand already
unfoldable pub expand : ℕ → ℕ → ℕ → List ℕ → Answer (List ℕ)
expand at n skip [] = Ok []
expand at n (suc skip) (b ∷ bs) = expand at n skip bs
expand at n zero (b ∷ bs) = do
  r ← repeat at bs
  _ ← refuse_if (ltb MOST_SYMBOLS (n + r.0)) (Refusal.TooManySymbols at)
  l ← expand at (n + r.0) r.1 bs
  Ok (replicate r.0 (upper b) ++ l)

-- ---------------------------------------------------------------- symbols, one by one

abbrev pub symbol : ℕ → Bool
symbol = among "XA9PVSZ*.,/B0$+-"

-- CR or DB
abbrev pub credit : ℕ → ℕ → Bool
credit a b = is "C" a && is "R" b || is "D" a && is "B" b

-- every byte is a symbol or half of a CR or DB
unfoldable pub legal : List ℕ → Bool
legal [] = true
legal (a ∷ []) = symbol a
legal (a ∷ b ∷ bs) = if credit a b then legal bs else symbol a && legal (b ∷ bs)

-- how many bytes are one of the text's
unfoldable pub tally : String → List ℕ → ℕ
tally s [] = 0
tally s (b ∷ bs) = if among s b then suc (tally s bs) else tally s bs

-- V and `.` start the fraction
unfoldable pub before_point : List ℕ → List ℕ
before_point [] = []
before_point (b ∷ bs) = if among "V." b then [] else b ∷ before_point bs

unfoldable pub after_point : List ℕ → List ℕ
after_point [] = []
after_point (b ∷ bs) = if among "V." b then bs else after_point bs

-- digits before and after the point; each of `$`, `+`, `-` adds its count less one, or 0
abbrev pub whole : List ℕ → ℕ
whole l = tally "9Z*" (before_point l) + (tally "$" l - 1) + (tally "+" l - 1) + (tally "-" l - 1)

abbrev pub fraction : List ℕ → ℕ
fraction l = tally "9Z*" (after_point l) + tally "P" l

-- precision counts all of them, P included
abbrev pub all_digits : List ℕ → ℕ
all_digits l = whole l + fraction l

-- digits without P
abbrev pub stored_digits : List ℕ → ℕ
stored_digits l = whole l + tally "9Z*" (after_point l)

abbrev pub is_text : List ℕ → Bool
is_text l = ltb 0 (tally "XA" l)

abbrev pub is_signed : List ℕ → Bool
is_signed l = ltb 0 (tally "S+-CD" l)

abbrev pub is_edited : List ℕ → Bool
is_edited l = ltb 0 (tally "Z*.,/B0$+-CD" l)

-- the bytes that are none of the text's
unfoldable pub without : String → List ℕ → List ℕ
without s [] = []
without s (b ∷ bs) = if among s b then without s bs else b ∷ without s bs

-- the mask: the symbols without S and V; it keeps P
abbrev pub mask : List ℕ → List ℕ
mask l = without "SV" l

-- ---------------------------------------------------------------- kind and width

abbrev pub pictured : FieldKind → Option Digits → ℕ → Pictured
pictured k d w = record { kind = k; digits = d; width = w }

abbrev pub digits_of : ℕ → ℕ → Bool → Option Digits
digits_of precision scale signed = Some (record { precision = precision; scale = scale; signed = signed })

-- SYNC aligns binary and float items
abbrev pub is_alignable : FieldKind → Bool
is_alignable FieldKind.Text = false
is_alignable (FieldKind.Int signed sign) = false
is_alignable (FieldKind.Binary signed) = true
is_alignable (FieldKind.Decimal precision scale repr sign) = false
is_alignable (FieldKind.Edited precision scale signed) = false
is_alignable FieldKind.Group = false
is_alignable (FieldKind.Float bits) = true

abbrev pub is_display : Usage → Bool
is_display Usage.Display = true
is_display Usage.Comp3 = false
is_display Usage.Comp = false

-- the sign that an item has: none without a sign symbol; else what the SIGN clause says, or embedded
abbrev pub resolve_sign : Bool → Option SignKind → SignKind
resolve_sign false c = SignKind.Unsigned
resolve_sign true None = SignKind.Embedded
resolve_sign true (Some k) = k

abbrev pub is_embedded : SignKind → Bool
is_embedded SignKind.Unsigned = false
is_embedded SignKind.Embedded = true
is_embedded SignKind.LeadingSeparate = false
is_embedded SignKind.TrailingSeparate = false

-- one byte for a separate sign
abbrev pub sign_bytes : SignKind → ℕ
sign_bytes SignKind.Unsigned = 0
sign_bytes SignKind.Embedded = 0
sign_bytes SignKind.LeadingSeparate = 1
sign_bytes SignKind.TrailingSeparate = 1

-- COMP: 0 to 4 digits 2 bytes, 5 to 9 4, more 8
abbrev pub comp_width : ℕ → ℕ
comp_width digits = if leb digits 4 then 2 else if leb digits 9 then 4 else 8

-- COMP-3: digits/2 rounded down, plus 1
abbrev pub byte_width : ℕ → ℕ
byte_width digits = digits / 2 + 1

-- storage width of a number, by its digits without P: in DISPLAY these digits, plus 1 for a separate sign
abbrev pub storage_width : Usage → SignKind → ℕ → ℕ
storage_width Usage.Display sign digits = digits + sign_bytes sign
storage_width Usage.Comp3 sign digits = byte_width digits
storage_width Usage.Comp sign digits = comp_width digits

-- a number in DISPLAY: whole and with no overpunched sign it is an int, else a decimal
abbrev pub display : ℕ → ℕ → Bool → SignKind → FieldKind
display precision scale signed sign =
    let zoned = signed && is_embedded sign in
    if eqb scale 0 && not zoned then FieldKind.Int signed sign
    else FieldKind.Decimal precision scale (if zoned then NumRepr.Zoned else NumRepr.Display) sign

abbrev pub numeric : Usage → ℕ → ℕ → Bool → SignKind → FieldKind
numeric Usage.Display precision scale signed sign = display precision scale signed sign
numeric Usage.Comp3 precision scale signed sign = FieldKind.Decimal precision scale NumRepr.Comp3 SignKind.Embedded
numeric Usage.Comp precision scale signed sign = FieldKind.Binary signed

-- editing is for DISPLAY alone
abbrev pub is_masked : Usage → List ℕ → Bool
is_masked usage l = is_edited l && is_display usage

-- kind, digits and width of legal symbols; edited precision is at least 1
unfoldable pub kinded : Usage → Option SignKind → List ℕ → Pictured
kinded usage clause l =
    let signed = is_signed l in
    let sign = resolve_sign signed clause in
    let scale = fraction l in
    let edited = max 1 (all_digits l) in
    if is_text l then pictured FieldKind.Text None (tally "XA" l)
    else if is_masked usage l
    then pictured (FieldKind.Edited edited scale signed) (digits_of edited scale signed) (length (without "P" (mask l)))
    else pictured (numeric usage (all_digits l) scale signed sign) (digits_of (all_digits l) scale signed)
    (storage_width usage sign (stored_digits l))

-- 26: text with a digit or editing
abbrev pub mixed : List ℕ → Bool
mixed l = is_text l && (ltb 0 (all_digits l) || is_edited l)

-- 27: non-text with over `MOST_DIGITS` digits, P included, or an edited DISPLAY mask over `LONGEST_MASK`
abbrev pub too_long : Usage → List ℕ → Bool
too_long usage l =
    not (is_text l) && (ltb MOST_DIGITS (all_digits l) || is_masked usage l && ltb LONGEST_MASK (length (mask l)))

-- the symbols of a picture, if it is not refused; white space around it is trimmed
unfoldable pub symbols : ℕ → Usage → List ℕ → Answer (List ℕ)
symbols at usage bs = do
  l ← expand at 0 0 (trim bs)
  _ ← refuse_if (not (legal l)) (Refusal.BadSymbol at)
  _ ← refuse_if (mixed l) (Refusal.MixedPicture at)
  _ ← refuse_if (too_long usage l) (Refusal.TooLong at)
  Ok l

unfoldable pub picture : ℕ → Usage → Option SignKind → List ℕ → Answer Pictured
picture at usage sign bs = do
  l ← symbols at usage bs
  Ok (kinded usage sign l)
