-- A picture's shape: the numbers that its kind and width and the last refusals depend on.
-- Assumes nothing.
use Rattle.std.specs.Prelude.{ℕ, ◌+◌, ◌-◌, ◌≤◌, max, ◌≡◌, Bool, false, ◌&&◌, ◌||◌, not, List, ltb, length, if◌then◌else◌, Option, None}
use Rattle.definition.specs.declared.Usage.{Usage}
use Rattle.definition.specs.declared.SignKind.{SignKind}
use Rattle.definition.specs.declared.FieldKind.{FieldKind}
use Rattle.definition.specs.declared.Pictured.{Pictured}
use Rattle.definition.specs.declared.Refusal.{Refusal}
use Rattle.definition.specs.declared.TheConstants.{MOST_DIGITS, LONGEST_MASK}
use Rattle.definition.specs.Basic.{Answer, Ok, ◌>>=◌, refuse_if}
use Rattle.definition.specs.Picture.{tally, without, mask, fraction, all_digits, stored_digits, is_signed, is_edited}
use Rattle.definition.specs.Picture.{pictured, digits_of, is_display, resolve_sign, storage_width, numeric, symbols}
use Rattle.picture.specs.declared.symbols.Tallies.{Tallies}
use Rattle.picture.specs.declared.symbols.Half.{Half}
use Rattle.picture.specs.declared.PicShape.{PicShape}
use Rattle.picture.specs.Shape.{nothing}

-- the shape of a list of symbols
abbrev pub shape_for : List ℕ → PicShape
shape_for l =
    record {
      text = tally "XA" l;
      digits = all_digits l;
      stored = stored_digits l;
      scale = fraction l;
      signed = is_signed l;
      edited = is_edited l;
      mask = length (mask l);
      width = length (without "P" (mask l));
    }

-- the digits without P, by the tallies
abbrev pub stored_of : Tallies → ℕ
stored_of t = t.whole + (t.dollars - 1) + (t.pluses - 1) + (t.minuses - 1) + (t.digits - t.whole)

-- the shape, by the tallies
abbrev pub shape_of : Tallies → PicShape
shape_of t =
    record {
      text = t.text;
      digits = stored_of t + t.scaled;
      stored = stored_of t;
      scale = t.digits - t.whole + t.scaled;
      signed = ltb 0 t.signs;
      edited = ltb 0 t.edits;
      mask = t.symbols - t.hidden;
      width = t.symbols - t.hidden - t.scaled;
    }

-- `is_masked`, `mixed`, `too_long` and `kinded` of the definition, by the shape in place of the symbols: is it edited
abbrev pub masked_by : Usage → PicShape → Bool
masked_by usage s = s.edited && is_display usage

-- text with a digit or editing
abbrev pub mixed_by : PicShape → Bool
mixed_by s = ltb 0 s.text && (ltb 0 s.digits || s.edited)

-- too many digits, or too long a mask
abbrev pub long_by : Usage → PicShape → Bool
long_by usage s = not (ltb 0 s.text) && (ltb MOST_DIGITS s.digits || masked_by usage s && ltb LONGEST_MASK s.mask)

-- kind, digits and width
abbrev pub kinded_by : Usage → Option SignKind → PicShape → Pictured
kinded_by usage clause s =
    let sign = resolve_sign s.signed clause in
    let edited = max 1 s.digits in
    if ltb 0 s.text then pictured FieldKind.Text None s.text
    else if masked_by usage s
    then pictured (FieldKind.Edited edited s.scale s.signed) (digits_of edited s.scale s.signed) s.width
    else pictured (numeric usage s.digits s.scale s.signed sign) (digits_of s.digits s.scale s.signed)
    (storage_width usage sign s.stored)

-- the last checks: 25, 26, 27
abbrev pub checked : ℕ → Usage → PicShape → Half → Answer (Unit {0})
checked at usage s half = do
  _ ← refuse_if (not (nothing half)) (Refusal.BadSymbol at)
  _ ← refuse_if (mixed_by s) (Refusal.MixedPicture at)
  refuse_if (long_by usage s) (Refusal.TooLong at)

-- a shape that is not too long
pub record Fit (usage : Usage) (s : PicShape) : Type 0 where
  pub short : long_by usage s ≡ false
  pub part : s.scale ≤ s.digits
  pub held : s.stored ≤ s.digits

-- the shape of a picture that is not refused
abbrev pub shaped : ℕ → Usage → List ℕ → Answer PicShape
shaped at usage bs = symbols at usage bs >>= λ l. Ok (shape_for l)
