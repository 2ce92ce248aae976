-- How far the numbers that a case should have were told.
-- Assumes nothing.
use Rattle.std.proofs.Common.{ℕ, List, ◌≡◌}
use Rattle.definition.specs.declared.Token.{Token}
use Rattle.replay.specs.Words.{says, behind_numbers}

-- what is told of all numbers, before all tokens, is what is told of those that are left, before the tokens that are
pub record Left (list ns ms : List ℕ) (ts us : List Token) : Type 0 where
  pub says : says list ns ts ≡ says list ms us
  pub behind : behind_numbers list ns ts ≡ behind_numbers list ms us
