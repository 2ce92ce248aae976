-- What a reader leans on of words: each stands so in the copybook's own text, they stand in order, with the periods that
-- end statements behind them, and a reader may go statement by statement.
-- Assumes nothing.
use Rattle.std.specs.Prelude.{ℕ, ◌+◌, ◌≡◌, ◌≤◌, ◌<◌, false, List, [], ◌∷◌, length, get_or}
use Rattle.definition.specs.declared.Span.{Span}
use Rattle.definition.specs.declared.Token.{Token}
use Rattle.definition.specs.declared.Token.TheVariants.{Word, Stop}
use Rattle.definition.specs.Basic.{white}
use Rattle.definition.specs.Words.{first_open, sentences, first_words, after_stop}

-- this holds of each word of each statement
abbrev pub OfWords : (Span → Type 0) → List Span → Type 0
OfWords P [] = Unit {0}
OfWords P (w ∷ ws) = P w × OfWords P ws

abbrev pub OfStatements : (Span → Type 0) → List (List Span) → Type 0
OfStatements P [] = Unit {0}
OfStatements P (ws ∷ wss) = OfWords P ws × OfStatements P wss

-- a word of the text is not empty, and no byte of it is white space
pub record Unbroken (text : List ℕ) (w : Span) : Type 0 where
  pub nonempty : 0 < w.len
  pub black : (i : ℕ) → w.start ≤ i → i < w.start + w.len → white (get_or text i 0) ≡ false

-- words stand in the text one after the other, none over another, from place n up to place `end`
abbrev pub WordsInOrder : List ℕ → ℕ → List Span → ℕ → Type 0
WordsInOrder text n [] end = n ≤ end
WordsInOrder text n (w ∷ ws) end = (n ≤ w.start) × Unbroken text w × WordsInOrder text (w.start + w.len) ws end

-- and so do statements, each up to its period, the last one up to its period or the end of the text
abbrev pub StatementsInOrder : List ℕ → ℕ → List (List Span) → List ℕ → Type 0
StatementsInOrder text n [] [] = n ≤ length text
StatementsInOrder text n [] (p ∷ ps) = ⊥
StatementsInOrder text n (ws ∷ wss) [] = WordsInOrder text n ws (length text) × (wss ≡ [])
StatementsInOrder text n (ws ∷ wss) (p ∷ ps) =
    WordsInOrder text n ws p × (get_or text p 0 ≡ 46) × StatementsInOrder text (p + 1) wss ps

-- the statements of tokens are the one that a word begins, or an empty one before a period, and those of the tokens after
-- it; an open literal stays among these
pub record OneByOne (ts : List Token) : Type 0 where
  pub word : (w : Span) → sentences (Word w ∷ ts) ≡ (w ∷ first_words ts) ∷ sentences (after_stop ts)
  pub stop : (p : ℕ) → sentences (Stop p ∷ ts) ≡ [] ∷ sentences ts
  pub left-open : first_open (after_stop ts) ≡ first_open ts
