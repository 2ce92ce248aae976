-- The words of a copybook text, statement by statement: `tokenize` and `split_statements` of the Rust.
-- Lines end at byte 10. A line whose first non-blank is `*` is dropped; from `*>` on, a line is cut; each line ends in
-- a blank. A period ends a statement only before white space or the end: that of the text, of a line, or of what is
-- left of a cut line. After a word VALUE or VALUES that is third or later in its statement, each quote or apostrophe up
-- to the statement's end opens a literal that closes at the same mark. Neither a period nor `*>` counts inside it. A
-- literal must close on its own line.
-- Free text has no columns; `Cards` says what is seen so of a text that has them.
-- Departures from COBOL: white space inside a literal separates words; a quote or an apostrophe before VALUE is a byte
-- like any other.
-- Assumes nothing.
use Rattle.std.specs.Prelude.{ℕ, ◌+◌, ◌-◌, Bool, true, false, ◌&&◌, ◌||◌, List, [], ◌∷◌, ◌++◌, eqb, leb, if◌then◌else◌}
use Rattle.std.specs.Prelude.{Option, None, Some}
use Rattle.definition.specs.declared.Span.{Span}
use Rattle.definition.specs.declared.ByteKind.{ByteKind}
use Rattle.definition.specs.declared.ByteKind.TheVariants.{Newline, Blank, Cut, Star, Period, Other}
use Rattle.definition.specs.declared.Mode.{Mode}
use Rattle.definition.specs.declared.Mode.TheVariants.{Fresh, Between, Dropped, Within}
use Rattle.definition.specs.declared.LiteralState.{LiteralState}
use Rattle.definition.specs.declared.LiteralState.TheVariants.{Before, Value, Literal}
use Rattle.definition.specs.declared.Token.{Token}
use Rattle.definition.specs.declared.Token.TheVariants.{Word, Stop, Open}
use Rattle.definition.specs.Basic.{bytes, is, among, starts, white, same, uppers, span, part}

-- ---------------------------------------------------------------- bytes

-- the bytes begin with `*>`
abbrev pub cut_here : List ℕ → Bool
cut_here [] = false
cut_here (b ∷ bs) = is "*" b && starts ">" bs

-- a period before these bytes ends a statement
abbrev pub ends : List ℕ → Bool
ends [] = true
ends (b ∷ bs) = white b || cut_here (b ∷ bs)

-- what a byte is, by itself and the bytes after it
unfoldable pub byte_kind : ℕ → List ℕ → ByteKind
byte_kind b bs =
    if eqb b 10 then Newline
    else if white b then Blank
    else if cut_here (b ∷ bs) then Cut
    else if is "*" b then Star
    else if is "." b && ends bs then Period
    else Other

-- ---------------------------------------------------------------- words

-- the mode after a byte at position p
abbrev pub next : Mode → ℕ → ByteKind → Mode
next Dropped p =
    elim [ Newline ↦ Fresh | Blank ↦ Dropped | Cut ↦ Dropped | Star ↦ Dropped | Period ↦ Dropped | Other ↦ Dropped ]
next Fresh p =
    elim [ Newline ↦ Fresh | Blank ↦ Fresh | Cut ↦ Dropped | Star ↦ Dropped | Period ↦ Between | Other ↦ Within p ]
next Between p =
    elim [ Newline ↦ Fresh | Blank ↦ Between | Cut ↦ Dropped | Star ↦ Within p | Period ↦ Between | Other ↦ Within p ]
next (Within s) p =
    elim [ Newline ↦ Fresh | Blank ↦ Between | Cut ↦ Dropped | Star ↦ Within s | Period ↦ Between | Other ↦ Within s ]

-- a word from s up to p
abbrev pub up_to : ℕ → ℕ → Token
up_to s p = Word (span s (p - s))

-- the tokens that a byte at position p completes
abbrev pub completed : Mode → ℕ → ByteKind → List Token
completed Dropped p = λ _. []
completed Fresh p = elim [ Newline ↦ [] | Blank ↦ [] | Cut ↦ [] | Star ↦ [] | Period ↦ Stop p ∷ [] | Other ↦ [] ]
completed Between p = elim [ Newline ↦ [] | Blank ↦ [] | Cut ↦ [] | Star ↦ [] | Period ↦ Stop p ∷ [] | Other ↦ [] ]
completed (Within s) p =
    elim [
      | Newline ↦ up_to s p ∷ []
      | Blank ↦ up_to s p ∷ []
      | Cut ↦ up_to s p ∷ []
      | Star ↦ []
      | Period ↦ up_to s p ∷ Stop p ∷ []
      | Other ↦ []
    ]

-- the token that the end of the text at position p completes: a last statement may lack its period
abbrev pub completed_end : Mode → ℕ → List Token
completed_end Dropped p = []
completed_end Fresh p = []
completed_end Between p = []
completed_end (Within s) p = up_to s p ∷ []

-- ---------------------------------------------------------------- literals

-- neither a period nor `*>` counts inside a literal
abbrev pub seen : LiteralState → ByteKind → ByteKind
seen (Before n) = λ k. k
seen Value = λ k. k
seen (Literal mark at) =
    elim [ Newline ↦ Newline | Blank ↦ Blank | Cut ↦ Other | Star ↦ Star | Period ↦ Other | Other ↦ Other ]

-- a byte b of a word, at position p: after VALUE each quote or apostrophe opens a literal, that closes at the same mark
abbrev pub after_byte : LiteralState → ℕ → ℕ → LiteralState
after_byte (Before n) p b = Before n
after_byte Value p b = if among "'\"" b then Literal b p else Value
after_byte (Literal mark at) p b = if eqb b mark then Value else Literal mark at

abbrev pub is_value : List ℕ → Bool
is_value bs = same (uppers bs) (bytes "VALUE") || same (uppers bs) (bytes "VALUES")

-- a word with the bytes bs ends, after n words: it is third or later, or not
abbrev pub after_word : LiteralState → List ℕ → LiteralState
after_word (Before n) bs = if leb 2 n then if is_value bs then Value else Before n else Before (n + 1)
after_word Value bs = Value
after_word (Literal mark at) bs = Literal mark at

-- tokens of the text end: a period ends the statement
abbrev pub ended : List ℕ → LiteralState → List Token → LiteralState
ended text q [] = q
ended text q (Word w ∷ ts) = ended text (after_word q (part text w)) ts
ended text q (Stop p ∷ ts) = ended text (Before 0) ts
ended text q (Open p ∷ ts) = ended text q ts

-- in a word
abbrev pub in_word : Mode → Bool
in_word Fresh = false
in_word Between = false
in_word Dropped = false
in_word (Within s) = true

-- what is said after a byte b at position p, which mode m sees as k
unfoldable pub said_next : List ℕ → LiteralState → Mode → ℕ → ℕ → ByteKind → LiteralState
said_next text q m p b k = if in_word (next m p k) then after_byte q p b else ended text q (completed m p k)

-- a literal must close on its own line: the line's end, or the text's, leaves it open, and then no tokens ts follow
abbrev pub unless_open : LiteralState → ByteKind → List Token → List Token
unless_open (Before n) k ts = ts
unless_open Value k ts = ts
unless_open (Literal mark at) k ts =
    elim k [ Newline ↦ Open at ∷ [] | Blank ↦ ts | Cut ↦ ts | Star ↦ ts | Period ↦ ts | Other ↦ ts ]

-- ---------------------------------------------------------------- tokens

-- the tokens of the text from position p on, where it has the bytes that follow
unfoldable pub tokens : List ℕ → LiteralState → Mode → ℕ → List ℕ → List Token
tokens text q m p [] = completed_end m p ++ unless_open q Newline []
tokens text q m p (b ∷ bs) =
    let k = seen q (byte_kind b bs) in
    completed m p k ++ unless_open q k (tokens text (said_next text q m p b k) (next m p k) (p + 1) bs)

abbrev pub tokens_of : List ℕ → List Token
tokens_of text = tokens text (Before 0) Fresh 0 text

-- the opening mark of the first unclosed literal
unfoldable pub first_open : List Token → Option ℕ
first_open [] = None
first_open (Word w ∷ ts) = first_open ts
first_open (Stop p ∷ ts) = first_open ts
first_open (Open p ∷ ts) = Some p

-- ---------------------------------------------------------------- statements

-- a word put in front of the first statement
abbrev pub on_first : Span → List (List Span) → List (List Span)
on_first w [] = (w ∷ []) ∷ []
on_first w (ws ∷ wss) = (w ∷ ws) ∷ wss

-- the words of each statement; a statement may be empty. An unclosed literal ends the reading
unfoldable pub sentences : List Token → List (List Span)
sentences [] = []
sentences (Stop p ∷ ts) = [] ∷ sentences ts
sentences (Word w ∷ ts) = on_first w (sentences ts)
sentences (Open p ∷ ts) = []

unfoldable pub statement_words : List ℕ → List (List Span)
statement_words text = sentences (tokens_of text)

-- the positions of the periods that end them, in the same order; a last one may lack it
unfoldable pub periods : List Token → List ℕ
periods [] = []
periods (Word w ∷ ts) = periods ts
periods (Stop p ∷ ts) = p ∷ periods ts
periods (Open p ∷ ts) = []

-- the words of the first statement, and the tokens after it, where an unclosed literal stays: a reader goes statement
-- by statement (`WordLaws`, of the proofs, says how)
abbrev pub first_words : List Token → List Span
first_words [] = []
first_words (Stop p ∷ ts) = []
first_words (Word w ∷ ts) = w ∷ first_words ts
first_words (Open p ∷ ts) = []

abbrev pub after_stop : List Token → List Token
after_stop [] = []
after_stop (Stop p ∷ ts) = ts
after_stop (Word w ∷ ts) = after_stop ts
after_stop (Open p ∷ ts) = Open p ∷ []
