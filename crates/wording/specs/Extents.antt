-- Where the statement ends that goes on at a place of the text.
-- Assumes nothing.
use Rattle.std.specs.Prelude.{ℕ, List, [], ◌∷◌, length}
use Rattle.definition.specs.declared.Token.{Token}
use Rattle.definition.specs.declared.Token.TheVariants.{Word, Stop, Open}
use Rattle.text.specs.declared.tokens.Cursor.{Cursor}
use Rattle.text.specs.Tokens.{tokens_at}

-- at the first period of these tokens, or with the text of `long` bytes
abbrev pub first_end : ℕ → List Token → ℕ
first_end long [] = long
first_end long (Word w ∷ ts) = first_end long ts
first_end long (Stop p ∷ ts) = p
first_end long (Open p ∷ ts) = long

abbrev pub end_from : List ℕ → Cursor → ℕ
end_from text from = first_end (length text) (tokens_at text from)
