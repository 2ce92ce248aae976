-- How many cases a list has, and what a tally is behind cases that were added to it.
-- Assumes nothing.
use Rattle.std.specs.Prelude.{ℕ, ◌≡◌, ◌≤◌, ◌+◌, min, Bool, true, false, List, [], ◌∷◌, Some, if◌then◌else◌}
use Rattle.definition.specs.declared.Token.{Token}
use Rattle.definition.specs.declared.Token.TheVariants.{Word, Stop, Open}
use Rattle.text.specs.Tokens.{at_start}
use Rattle.replay.specs.declared.tally.Tally.{Tally}
use Rattle.replay.specs.Tallies.{most}
use Rattle.replay.specs.Bare.{bare_ahead}
use Rattle.replay.specs.Words.{ahead}

-- how many cases begin among these tokens, inside a case or between two
abbrev pub begun : Bool → List Token → ℕ
begun inside [] = 0
begun inside (Word w ∷ ts) = (if inside then 0 else 1) + begun true ts
begun inside (Stop p ∷ ts) = begun false ts
begun inside (Open p ∷ ts) = 0

-- how many cases a list has
abbrev pub cases : List ℕ → ℕ
cases list = begun false (ahead list at_start)

-- or where no literal opens in it
abbrev pub bare_cases : List ℕ → ℕ
bare_cases list = begun false (bare_ahead list 0)

-- nothing that was counted is lost, whether it agreed or differed, and the first difference stays
pub record Onward (s t : Tally) : Type 0 where
  pub cases : s.cases ≤ t.cases
  pub agreeing : s.agree ≤ t.agree
  pub differing : s.cases + t.agree ≤ t.cases + s.agree
  pub first : (n : ℕ) → s.first_difference ≡ Some n → t.first_difference ≡ Some n

-- as many cases were added as a list has, up to the most that are counted
pub record Counted (list : List ℕ) (s t : Tally) : Type 0 where
  pub all : t.cases ≡ min most (s.cases + cases list)
  pub onward : Onward s t

-- or where no literal opens in it
pub record BareCounted (list : List ℕ) (s t : Tally) : Type 0 where
  pub all : t.cases ≡ min most (s.cases + bare_cases list)
  pub onward : Onward s t
