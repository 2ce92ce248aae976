-- What the reader read, as bytes: of each statement that has words, in the text's order, how many they are; the
-- position of the period that ends it, or the length of the text where none does; and the start and the length of each
-- word. Numbers are little-endian, 4 bytes. The words are those from which the layout is read; a statement that it skips
-- or refuses has its own too.
-- Assumes nothing.
use Rattle.std.specs.Prelude.{ℕ, List, [], ◌∷◌, ◌++◌, length}
use Rattle.definition.specs.declared.Span.{Span}
use Rattle.definition.specs.Basic.{le4}
use Rattle.definition.specs.Words.{tokens_of, statement_words, periods}
use Rattle.definition.specs.Listing.{span_bytes}

-- each word's start and length
unfoldable pub spans_bytes : List Span → List ℕ
spans_bytes [] = []
spans_bytes (w ∷ ws) = span_bytes w ++ spans_bytes ws

-- a statement that ends at this position; an empty one has no bytes
abbrev pub statement_bytes : List Span → ℕ → List ℕ
statement_bytes [] end = []
statement_bytes (w ∷ ws) end = le4 (length (w ∷ ws)) ++ le4 end ++ spans_bytes (w ∷ ws)

-- statements, with the periods that end them; where there is none it is the end of the text
unfoldable pub statements_bytes : ℕ → List (List Span) → List ℕ → List ℕ
statements_bytes end [] ps = []
statements_bytes end (ws ∷ wss) [] = statement_bytes ws end ++ statements_bytes end wss []
statements_bytes end (ws ∷ wss) (p ∷ ps) = statement_bytes ws p ++ statements_bytes end wss ps

abbrev pub wording : List ℕ → List ℕ
wording text = statements_bytes (length text) (statement_words text) (periods (tokens_of text))
