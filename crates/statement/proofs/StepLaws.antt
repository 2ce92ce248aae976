-- A count is read from the word as it stands: upper case changes no number.
-- Assumes nothing.
use Rattle.std.proofs.lemmas.Bool.Decides.{nat_tests}
use Rattle.definition.proofs.NumberLaws.{number-uppers}

pub ruleset count_steps = (nat_tests, number-uppers)
