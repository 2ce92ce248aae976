-- What stands in an output before a call.
-- Assumes nothing.
use Rattle.std.specs.Prelude.{ℕ, ◌+◌, ◌%◌, ◌&&◌, Bool, true, List, [], ◌∷◌, eqb}

-- these bytes are the pattern from place i on: what is left of i, divided by 251
abbrev pub untouched : ℕ → List ℕ → Bool
untouched i [] = true
untouched i (b ∷ bs) = eqb b (i % 251) && untouched (i + 1) bs
