-- The input that a word of a list stands for.
-- Assumes nothing.
use Rattle.std.specs.Prelude.{ℕ, ◌+◌, ◌-◌, ◌*◌, ◌&&◌, List, [], ◌∷◌, eqb, leb, if◌then◌else◌}

-- what a digit of base 16 stands for, and 0 for any other byte
abbrev pub hex : ℕ → ℕ
hex b = if leb 48 b && leb b 57 then b - 48 else if leb 65 b && leb b 70 then b - 55 else 0

-- %XX stands for a byte, and any other byte for itself
abbrev pub decoded : List ℕ → List ℕ
decoded [] = []
decoded (a ∷ []) = a ∷ []
decoded (a ∷ b ∷ []) = a ∷ b ∷ []
decoded (a ∷ b ∷ c ∷ bs) = if eqb a 37 then (hex b * 16 + hex c) ∷ decoded bs else a ∷ decoded (b ∷ c ∷ bs)

-- the word % is the empty input
abbrev pub input : List ℕ → List ℕ
input [] = []
input (a ∷ []) = if eqb a 37 then [] else a ∷ []
input (a ∷ b ∷ bs) = decoded (a ∷ b ∷ bs)
