-- What the answers of the functions that walk over tokens say, in terms of the definition's tokens from a place on.
-- Assumes nothing.
use Rattle.std.specs.Prelude.{ℕ, ◌+◌, ◌-◌, ◌<◌, ◌≤◌, ◌≡◌, Bool, true, false, List, [], ◌∷◌, eqb, length, get_or, drop, if◌then◌else◌}
use Rattle.definition.specs.declared.ByteKind.TheVariants.{Newline}
use Rattle.definition.specs.declared.Mode.{Mode}
use Rattle.definition.specs.declared.Mode.TheVariants.{Fresh, Between, Dropped, Within}
use Rattle.definition.specs.declared.LiteralState.{LiteralState}
use Rattle.definition.specs.declared.LiteralState.TheVariants.{Before, Value, Literal}
use Rattle.definition.specs.declared.Refusal.{Refusal}
use Rattle.definition.specs.declared.Span.{Span}
use Rattle.definition.specs.declared.Token.{Token}
use Rattle.definition.specs.Basic.{span, part, Answer, Ok, Err}
use Rattle.definition.specs.Unquoted.{closed}
use Rattle.definition.specs.Words.{up_to, after_byte, after_word, unless_open, tokens, first_words, after_stop}
use Rattle.text.specs.declared.tokens.Ahead.{Ahead}
use Rattle.text.specs.declared.tokens.Next.{Next}
use Rattle.text.specs.declared.tokens.Cursor.{Cursor}

-- ---------------------------------------------------------------- where a reader stands

-- between words, where a line has only blanks so far or not
abbrev pub between : Bool → Mode
between true = Fresh
between false = Between

-- the tokens of a text from a place on
abbrev pub tokens_from : List ℕ → LiteralState → Mode → ℕ → List Token
tokens_from text q m at = tokens text q m at (drop at text)

-- a reader at the beginning of a text, and behind a statement
abbrev pub at_start : Cursor
at_start = record { at = 0; literals = Before 0 }

abbrev pub behind : ℕ → Cursor
behind at = record { at = at; literals = Before 0 }

-- the mode in which a reader stands: inside a literal, and behind any token, its line has begun
abbrev pub mode_at : Cursor → Mode
mode_at s = if closed s.literals then between (eqb s.at 0) else Between

-- the tokens from where a reader stands
abbrev pub tokens_at : List ℕ → Cursor → List Token
tokens_at text s = tokens_from text s.literals (mode_at s) s.at

-- ---------------------------------------------------------------- words

-- VALUE was said
abbrev pub AfterValue : LiteralState → Type 0
AfterValue (Before n) = ⊥
AfterValue Value = Unit {0}
AfterValue (Literal mark at) = Unit {0}

-- what is dropped from a place on ends at r, where no literal is open
pub record NextLine (text : List ℕ) (at r : ℕ) : Type 0 where
  pub up : at ≤ r
  pub within : r ≤ length text
  pub rest : (q : LiteralState) → closed q ≡ true → tokens_from text q Dropped at ≡ tokens_from text q Fresh r

-- a word that goes on at a place before VALUE, after any number of words, ends at r, wherever it began
pub record PlainEnd (text : List ℕ) (at r : ℕ) : Type 0 where
  pub up : at ≤ r
  pub within : r ≤ length text
  pub rest :
      (n s : ℕ) →
      tokens_from text (Before n) (Within s) at
      ≡ up_to s r ∷ tokens_from text (after_word (Before n) (part text (span s (r - s)))) Between r

-- a word that goes on at a place, with q said, ends at r, wherever it began
pub record WordEnd (text : List ℕ) (at : ℕ) (q : LiteralState) (r : Cursor) : Type 0 where
  pub up : at ≤ r.at
  pub within : r.at ≤ length text
  pub rest : (a : ℕ) → tokens_from text q (Within a) at ≡ up_to a r.at ∷ tokens_from text r.literals Between r.at

-- the word that begins at i, with q said, ends at r
pub record WordFrom (text : List ℕ) (i : ℕ) (q : LiteralState) (r : Cursor) : Type 0 where
  pub up : i < r.at
  pub within : r.at ≤ length text
  pub rest :
      tokens_from text (after_byte q i (get_or text i 0)) (Within i) (i + 1)
      ≡ up_to i r.at ∷ tokens_from text r.literals Between r.at

-- ---------------------------------------------------------------- what stands ahead

-- where no literal is open: a word that begins at i,
pub record AheadWord (text : List ℕ) (at : ℕ) (fresh : Bool) (i : ℕ) : Type 0 where
  pub up : at ≤ i
  pub within : i < length text
  pub rest :
      (q : LiteralState) →
      closed q ≡ true →
      tokens_from text q (between fresh) at ≡ tokens_from text (after_byte q i (get_or text i 0)) (Within i) (i + 1)

-- the period that ends a statement, directly before `next`,
pub record AheadStop (text : List ℕ) (at : ℕ) (fresh : Bool) (next : ℕ) : Type 0 where
  pub up : at < next
  pub within : next ≤ length text
  pub rest :
      (q : LiteralState) →
      closed q ≡ true →
      tokens_from text q (between fresh) at ≡ Token.Stop (next - 1) ∷ tokens_from text (Before 0) Between next

-- or the end of the text
pub record AheadEnd (text : List ℕ) (at : ℕ) (fresh : Bool) (i : ℕ) : Type 0 where
  pub last : i ≡ length text
  pub rest : (q : LiteralState) → closed q ≡ true → tokens_from text q (between fresh) at ≡ []

abbrev pub AheadIs : List ℕ → ℕ → Bool → Ahead → Type 0
AheadIs text at fresh (Ahead.Word i) = AheadWord text at fresh i
AheadIs text at fresh (Ahead.Stop next) = AheadStop text at fresh next
AheadIs text at fresh (Ahead.End i) = AheadEnd text at fresh i

-- inside a literal the tokens are those from i on
pub record Skips (text : List ℕ) (at i : ℕ) : Type 0 where
  pub up : at ≤ i
  pub within : i ≤ length text
  pub rest : (m a : ℕ) → tokens_from text (Literal m a) Between at ≡ tokens_from text (Literal m a) Between i

-- there a word begins at i,
pub record InsideWord (text : List ℕ) (at i : ℕ) : Type 0 where
  pub skips : Skips text at i
  pub within : i < length text
  pub begins :
      (m a : ℕ) →
      tokens_from text (Literal m a) Between i
      ≡ tokens_from text (after_byte (Literal m a) i (get_or text i 0)) (Within i) (i + 1)

-- or the line ends, and the literal is left open
pub record InsideEnd (text : List ℕ) (at i : ℕ) : Type 0 where
  pub skips : Skips text at i
  pub opens : (m a : ℕ) → tokens_from text (Literal m a) Between i ≡ Token.Open a ∷ []

abbrev pub InsideIs : List ℕ → ℕ → Ahead → Type 0
InsideIs text at (Ahead.Word i) = InsideWord text at i
InsideIs text at (Ahead.Stop next) = ⊥
InsideIs text at (Ahead.End i) = InsideEnd text at i

-- ---------------------------------------------------------------- tokens

-- the first of the tokens from a place on is a word, and the others are those from `next` on
pub record FirstWord (all : List Token) (text : List ℕ) (at : ℕ) (w : Span) (next : Cursor) : Type 0 where
  pub all_are : all ≡ Token.Word w ∷ tokens_at text next
  pub up : at < next.at
  pub within : next.at ≤ length text
  pub begins : at ≤ w.start
  pub fits : w.start + w.len ≤ length text
  pub nonempty : 0 < w.len

-- the first of the tokens from a place on is the period that ends a statement, directly before `next`
pub record FirstStop (all : List Token) (text : List ℕ) (at : ℕ) (next : Cursor) : Type 0 where
  pub all_are : all ≡ Token.Stop (next.at - 1) ∷ tokens_at text next
  pub up : at < next.at
  pub within : next.at ≤ length text

-- there is none, or only the mark of a literal that is left open at `next`
pub record FirstEnd (all : List Token) (text : List ℕ) (at : ℕ) (next : Cursor) : Type 0 where
  pub all_are : all ≡ tokens_at text next
  pub opens : all ≡ unless_open next.literals Newline []
  pub up : at ≤ next.at
  pub within : next.at ≤ length text

-- a word is ahead of a reader, and begins at i
pub record LooksWord (text : List ℕ) (s : Cursor) (i : ℕ) : Type 0 where
  pub up : s.at ≤ i
  pub within : i < length text
  pub rest :
      tokens_at text s ≡ tokens_from text (after_byte s.literals i (get_or text i 0)) (Within i) (i + 1)

-- what is ahead of a reader
abbrev pub Looks : List ℕ → Cursor → Ahead → Type 0
Looks text s (Ahead.Word i) = LooksWord text s i
Looks text s (Ahead.Stop next) = FirstStop (tokens_at text s) text s.at (behind next)
Looks text s (Ahead.End i) = FirstEnd (tokens_at text s) text s.at (record { at = i; literals = s.literals })

-- what an answer says of all tokens from a place on, where the reader stands at `next` then
abbrev pub First : List Token → List ℕ → ℕ → Next → Cursor → Type 0
First all text at (Next.Word w) next = FirstWord all text at w next
First all text at Next.Stop next = FirstStop all text at next
First all text at Next.End next = FirstEnd all text at next

-- the token that a reader passed, where it stands at `next` then
abbrev pub token_of : Ahead → Cursor → Next
token_of (Ahead.Word i) next = Next.Word (span i (next.at - i))
token_of (Ahead.Stop at) next = Next.Stop
token_of (Ahead.End at) next = Next.End

-- 50 at the opening mark of a literal that is open where the tokens end
abbrev pub open_check : Cursor → Answer (Unit {0})
open_check s = elim s.literals [ Before n ↦ Ok tt | Value ↦ Ok tt | Literal mark at ↦ Err (Refusal.UnclosedLiteral at) ]

-- ---------------------------------------------------------------- statements

-- the words of the statement that goes on there
abbrev pub words_from : List ℕ → Cursor → List Span
words_from text from = first_words (tokens_at text from)

-- the statement that goes on at `from` ends before `next`
pub record Ends (text : List ℕ) (from next : Cursor) : Type 0 where
  pub up : from.at ≤ next.at
  pub within : next.at ≤ length text
  pub rest : after_stop (tokens_at text from) ≡ tokens_at text next
