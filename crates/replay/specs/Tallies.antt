-- What a tally counts when a case is added.
-- Assumes nothing.
use Rattle.std.specs.Prelude.{ℕ, ◌+◌, Bool, ltb, not, Option, None, Some, ◌&&◌, if◌then◌else◌, List, ◌++◌, codes}
use Rattle.std.specs.Fmt.{decimal}

-- a million cases are counted at most
abbrev pub most : ℕ
most = 1000000

abbrev pub counted : ℕ → ℕ
counted cases = if ltb cases most then cases + 1 else cases

abbrev pub agreeing : ℕ → ℕ → Bool → ℕ
agreeing cases agree b = if ltb cases most && b then agree + 1 else agree

-- the first that differed stays
abbrev pub first_of : ℕ → Option ℕ → Bool → Option ℕ
first_of cases (Some n) b = Some n
first_of cases None b = if ltb cases most && not b then Some (cases + 1) else None

-- what is printed of how many agree, and how many there are
abbrev pub printed : ℕ → ℕ → List ℕ
printed agree cases = decimal agree ++ codes " agree of " ++ decimal cases
