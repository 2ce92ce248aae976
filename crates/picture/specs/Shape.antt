-- What the reader counts of a picture's symbols, and what it awaits of CR or DB.
-- Assumes nothing.
use Rattle.std.specs.Prelude.{ℕ, ◌+◌, ◌≤◌, Bool, true, false, List, [], ◌∷◌, ltb, length, if◌then◌else◌}
use Prim.Native.String.{String}
use Rattle.definition.specs.declared.TheConstants.{MOST_SYMBOLS}
use Rattle.definition.specs.Basic.{is, among, Answer, Ok, ◌>>=◌}
use Rattle.definition.specs.Picture.{expand, symbol, tally, before_point}
use Rattle.picture.specs.declared.symbols.Tallies.{Tallies}
use Rattle.picture.specs.declared.symbols.Half.{Half}

-- the tallies, by a count of each set of symbols
abbrev pub tallied : ℕ → ℕ → (String → ℕ) → Tallies
tallied symbols whole count =
    record {
      symbols = symbols;
      text = count "XA";
      digits = count "9Z*";
      whole = whole;
      scaled = count "P";
      points = count "V.";
      dollars = count "$";
      pluses = count "+";
      minuses = count "-";
      signs = count "S+-CD";
      edits = count "Z*.,/B0$+-CD";
      hidden = count "SV";
    }

-- the tallies of a list of symbols
abbrev pub tallies : List ℕ → Tallies
tallies l = tallied (length l) (tally "9Z*" (before_point l)) (λ s. tally s l)

-- n if the byte is one of the text's, else 0
abbrev pub times_in : String → ℕ → ℕ → ℕ
times_in s b n = if among s b then n else 0

-- the tallies of one symbol that stands n times
abbrev pub run_of : ℕ → ℕ → Tallies
run_of b n = tallied n (times_in "9Z*" b n) (λ s. times_in s b n)

-- n before the point, 0 after it; so many points stand already
abbrev pub unless : ℕ → ℕ → ℕ
unless points n = if ltb 0 points then 0 else n

-- the tallies of two lists, one after the other
abbrev pub joined : Tallies → Tallies → Tallies
joined s t =
    record {
      symbols = s.symbols + t.symbols;
      text = s.text + t.text;
      digits = s.digits + t.digits;
      whole = s.whole + unless s.points t.whole;
      scaled = s.scaled + t.scaled;
      points = s.points + t.points;
      dollars = s.dollars + t.dollars;
      pluses = s.pluses + t.pluses;
      minuses = s.minuses + t.minuses;
      signs = s.signs + t.signs;
      edits = s.edits + t.edits;
      hidden = s.hidden + t.hidden;
    }

-- no tally is above `MOST_SYMBOLS`, and those of parts are not above the whole's
pub record Small (s : Tallies) : Type 0 where
  pub symbols : s.symbols ≤ MOST_SYMBOLS
  pub text : s.text ≤ MOST_SYMBOLS
  pub digits : s.digits ≤ MOST_SYMBOLS
  pub whole : s.whole ≤ s.digits
  pub scaled : s.scaled ≤ MOST_SYMBOLS
  pub points : s.points ≤ MOST_SYMBOLS
  pub dollars : s.dollars ≤ MOST_SYMBOLS
  pub pluses : s.pluses ≤ MOST_SYMBOLS
  pub minuses : s.minuses ≤ MOST_SYMBOLS
  pub signs : s.signs ≤ MOST_SYMBOLS
  pub edits : s.edits ≤ MOST_SYMBOLS
  pub hidden : s.hidden + s.scaled ≤ s.symbols

-- n symbols more can be added
pub record Adds (s : Tallies) (n : ℕ) : Type 0 where
  pub small : Small s
  pub few : n ≤ MOST_SYMBOLS

-- what of CR or DB is awaited after one more byte
abbrev pub awaits : Half → ℕ → Half
awaits Half.Nothing b =
    if is "C" b then Half.C
    else if is "D" b then Half.D
    else if symbol b then Half.Nothing
    else Half.Wrong
awaits Half.C b = if is "R" b then Half.Nothing else Half.Wrong
awaits Half.D b = if is "B" b then Half.Nothing else Half.Wrong
awaits Half.Wrong b = Half.Wrong

-- and after a list of symbols
unfoldable pub halves : Half → List ℕ → Half
halves p [] = p
halves p (b ∷ bs) = halves (awaits p b) bs

-- nothing is awaited, and every byte was a symbol
abbrev pub nothing : Half → Bool
nothing Half.Nothing = true
nothing Half.C = false
nothing Half.D = false
nothing Half.Wrong = false

-- the symbols of a picture, counted
abbrev pub counts : ℕ → List ℕ → Answer (Tallies × Half)
counts at bs = expand at 0 0 bs >>= λ l. Ok (tallies l, halves Half.Nothing l)
