-- What a table of spellings means, and the definition's spellings by their first letter.
-- Assumes nothing.
use Rattle.std.specs.Prelude.{ℕ, Bool, true, false, Option, None, Some, List, [], ◌∷◌, eqb, if◌then◌else◌}
use Rattle.std.specs.Borrow.{Bor}
use Rattle.definition.specs.declared.Keyword.{Keyword}
use Rattle.definition.specs.Basic.{bytes, same}
use Rattle.definition.specs.Statement.{Spelling}

-- what the first spelling of a table means that is the word u in upper case
abbrev pub first_meaning : List ℕ → List (Bor (List ℕ) × Keyword) → Option Keyword
first_meaning u [] = None
first_meaning u (s ∷ t) = if same u s.0.now then Some s.1 else first_meaning u t

-- the bytes begin with b
abbrev pub first : ℕ → List ℕ → Bool
first b [] = false
first b (x ∷ xs) = eqb b x

-- a spelling before others, if the test holds
abbrev pub kept : Bool → Spelling → List Spelling → List Spelling
kept true s ss = s ∷ ss
kept false s ss = ss

-- the spellings that begin with b
abbrev pub starting : ℕ → List Spelling → List Spelling
starting b [] = []
starting b (s ∷ ss) = kept (first b (bytes s.word)) s (starting b ss)
