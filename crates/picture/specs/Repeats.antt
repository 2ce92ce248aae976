-- What a run of one symbol is in the terms of the definition.
-- Assumes nothing.
use Rattle.std.specs.Prelude.{ℕ, ◌+◌, ◌≤◌, ◌<◌, ◌≡◌, List, [], ◌∷◌, Bool, false, replicate}
use Rattle.definition.specs.declared.Refusal.{Refusal}
use Rattle.definition.specs.declared.TheConstants.{MOST_SYMBOLS}
use Rattle.definition.specs.Basic.{is, Err, upper}
use Rattle.definition.specs.Picture.{expand}
use Rattle.definition.proofs.PictureLaws.{onto}

-- the text begins with a `(`
abbrev pub opens : List ℕ → Bool
opens [] = false
opens (b ∷ bs) = is "(" b

-- after k symbols, those of `bs` are b, n times, and then those of `rest`; or they are too many
pub record Runs (at : ℕ) (bs : List ℕ) (n b : ℕ) (rest : List ℕ) : Type 0 where
  pub more : (k : ℕ) → k + n ≤ MOST_SYMBOLS → expand at k 0 bs ≡ onto (replicate n (upper b)) (expand at (k + n) 0 rest)
  pub many : (k : ℕ) → k ≤ MOST_SYMBOLS → MOST_SYMBOLS < k + n → expand at k 0 bs ≡ Err (Refusal.TooManySymbols at)

-- they cannot be read
abbrev pub Stops : ℕ → List ℕ → Refusal → Type 0
Stops at bs r = (k : ℕ) → expand at k 0 bs ≡ Err r
