-- What the functions that make the view of cards say.
-- Assumes nothing.
use Rattle.std.specs.Prelude.{ℕ, ◌≤◌, ◌≡◌, List, length, take}
use Rattle.definition.specs.declared.TheConstants.{MOST_BYTES}
use Rattle.definition.specs.Basic.{Answer, Err, Ok}
use Rattle.definition.specs.Cards.{view}
use Rattle.definition.specs.Calls.{indicator_check, card_checks}

-- there is room for the view
pub record ViewRoom (text seen : List ℕ) : Type 0 where
  pub short : length text ≤ MOST_BYTES
  pub room : length text ≤ length seen

-- the first bytes of what is lent are the view, unless an indicator is refused
abbrev pub Viewed : List ℕ → Answer (Unit {0}) → List ℕ → Type 0
Viewed text (Ok u) seen = (indicator_check text ≡ Ok tt) × (take (length text) seen ≡ view text)
Viewed text (Err r) seen = indicator_check text ≡ Err r

-- the checks of cards are passed, and this is the view
pub record CardsSeen (text : List ℕ) (work : ℕ) (seen : List ℕ) : Type 0 where
  pub passed : card_checks text work ≡ Ok tt
  pub short : length text ≤ MOST_BYTES
  pub bytes : seen ≡ view text
