-- What the words of a case say, and what is left of it behind them, in terms of the definition's tokens.
-- Assumes nothing.
use Rattle.std.specs.Prelude.{ℕ, Bool, true, false, ◌&&◌, List, [], ◌∷◌, eqb, Option, None, Some, if◌then◌else◌}
use Rattle.definition.specs.declared.Token.{Token}
use Rattle.definition.specs.declared.Token.TheVariants.{Word, Stop, Open}
use Rattle.definition.specs.Basic.{part, count}
use Rattle.text.specs.declared.tokens.Cursor.{Cursor}
use Rattle.text.specs.Tokens.{tokens_at}

-- the tokens of a list from where a case goes on
unfoldable pub ahead : List ℕ → Cursor → List Token
ahead list s = tokens_at list s

-- ---------------------------------------------------------------- words

-- the word that comes next, if one does
abbrev pub first_word : List ℕ → List Token → Option (List ℕ)
first_word list [] = None
first_word list (Word w ∷ ts) = Some (part list w)
first_word list (Stop p ∷ ts) = None
first_word list (Open p ∷ ts) = None

-- what is left behind it
abbrev pub behind_word : List Token → List Token
behind_word [] = []
behind_word (Word w ∷ ts) = ts
behind_word (Stop p ∷ ts) = Stop p ∷ ts
behind_word (Open p ∷ ts) = Open p ∷ ts

-- the case ends here
abbrev pub is_end : List Token → Bool
is_end [] = false
is_end (Word w ∷ ts) = false
is_end (Stop p ∷ ts) = true
is_end (Open p ∷ ts) = false

-- ---------------------------------------------------------------- numbers

-- the number that the next word spells
abbrev pub counted : Option (List ℕ) → Option ℕ
counted None = None
counted (Some w) = count w

abbrev pub first_number : List ℕ → List Token → Option ℕ
first_number list ts = counted (first_word list ts)

abbrev pub is_that : ℕ → Option ℕ → Bool
is_that n None = false
is_that n (Some m) = eqb m n

-- the next words are these numbers
abbrev pub says : List ℕ → List ℕ → List Token → Bool
says list [] ts = true
says list (n ∷ ns) ts = is_that n (first_number list ts) && says list ns (behind_word ts)

-- what is left behind them, or behind the first that is another
abbrev pub behind_numbers : List ℕ → List ℕ → List Token → List Token
behind_numbers list [] ts = ts
behind_numbers list (n ∷ ns) ts =
    if is_that n (first_number list ts) then behind_numbers list ns (behind_word ts) else behind_word ts

-- ---------------------------------------------------------------- cases

-- what is left where the next case begins
abbrev pub first_case : List Token → List Token
first_case [] = []
first_case (Word w ∷ ts) = Word w ∷ ts
first_case (Stop p ∷ ts) = first_case ts
first_case (Open p ∷ ts) = Open p ∷ ts

-- what is left behind a case: it ends with the first period that ends a statement, or with the list
abbrev pub behind_case : List Token → List Token
behind_case [] = []
behind_case (Word w ∷ ts) = behind_case ts
behind_case (Stop p ∷ ts) = ts
behind_case (Open p ∷ ts) = Open p ∷ ts

-- a word is the first of these tokens
abbrev pub begins : List Token → Bool
begins [] = false
begins (Word w ∷ ts) = true
begins (Stop p ∷ ts) = false
begins (Open p ∷ ts) = false
