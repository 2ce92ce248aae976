-- What a case has ahead in a list in which no literal opens: a mark is a byte like any other, behind VALUE too.
-- Assumes nothing.
use Rattle.std.specs.Prelude.{ℕ, ◌≡◌, ◌≤◌, ◌<◌, ◌-◌, List, [], ◌∷◌, eqb, length, drop}
use Rattle.definition.specs.declared.Token.{Token}
use Rattle.definition.specs.declared.Token.TheVariants.{Stop}
use Rattle.definition.specs.Words.{up_to}
use Rattle.definition.specs.Unquoted.{bare_tokens}
use Rattle.text.specs.declared.tokens.Ahead.{Ahead}
use Rattle.text.specs.Tokens.{between}

-- the tokens of a list from where a case goes on: place 0 begins a line, and any other place stands behind a token
unfoldable pub bare_ahead : List ℕ → ℕ → List Token
bare_ahead list at = bare_tokens (between (eqb at 0)) at (drop at list)

-- the first of them is a word that begins at i, and the others are those from its end on
pub record PassedWord (list : List ℕ) (at i next : ℕ) : Type 0 where
  pub all_are : bare_ahead list at ≡ up_to i next ∷ bare_ahead list next
  pub up : at ≤ i
  pub nonempty : i < next
  pub within : next ≤ length list

-- or a period that ends a case, directly before `next`
pub record PassedStop (list : List ℕ) (at next : ℕ) : Type 0 where
  pub all_are : bare_ahead list at ≡ Stop (next - 1) ∷ bare_ahead list next
  pub up : at < next
  pub within : next ≤ length list

-- or there is none
pub record PassedEnd (list : List ℕ) (at next : ℕ) : Type 0 where
  pub none : bare_ahead list at ≡ []
  pub stays : next ≡ at

-- the token that was passed
abbrev pub Passed : List ℕ → ℕ → Ahead → ℕ → Type 0
Passed list at (Ahead.Word i) next = PassedWord list at i next
Passed list at (Ahead.Stop p) next = PassedStop list at next
Passed list at (Ahead.End p) next = PassedEnd list at next
