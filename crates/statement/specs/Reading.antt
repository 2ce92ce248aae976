-- What the answers of the statement reader say, in terms of the definition and of the tokens from a place on.
-- Assumes nothing.
use Rattle.std.specs.Prelude.{ℕ, ◌<◌, ◌≤◌, ◌≡◌, List, [], ◌∷◌, length}
use Rattle.std.specs.Prelude.{None, Some}
use Rattle.definition.specs.declared.ByteKind.TheVariants.{Newline}
use Rattle.definition.specs.declared.Clauses.{Clauses}
use Rattle.definition.specs.declared.ParseState.{ParseState}
use Rattle.definition.specs.declared.Refusal.{Refusal}
use Rattle.definition.specs.declared.Statement.{Statement}
use Rattle.definition.specs.declared.Token.{Token}
use Rattle.definition.specs.Basic.{Answer, Err, Ok}
use Rattle.definition.specs.Statement.{no_clauses, clauses, named, statement}
use Rattle.definition.specs.Words.{unless_open, first_open, sentences, first_words, after_stop}
use Rattle.text.specs.declared.tokens.Cursor.{Cursor}
use Rattle.text.specs.Tokens.{tokens_at, words_from, Ends}
use Rattle.statement.specs.Places.{SpanInside, Fits}
use Rattle.statement.specs.declared.StatementRead.{StatementRead}

-- ---------------------------------------------------------------- places in the text

-- a statement's first word, its name and the spans that its clauses name lie in the text
pub record StatementFits (text : List ℕ) (s : Statement) : Type 0 where
  pub begins : s.at < length text
  pub name : SpanInside text s.name
  pub clauses : Fits text s.clauses

-- ---------------------------------------------------------------- the words of a statement

-- the clauses of the words from a place on, and where they end
pub record ClausesDone (text : List ℕ) (at : ℕ) (from : Cursor) (c : Clauses) (next : Cursor) : Type 0 where
  pub is : clauses text at ParseState.Clause no_clauses (words_from text from) ≡ Ok c
  pub fits : Fits text c
  pub ends : Ends text from next

-- what an answer says of the clauses from a place on, of the statement that begins at a position, where the reader
-- stands at `next` then
abbrev pub ClausesAre : List ℕ → ℕ → Cursor → Answer Clauses → Cursor → Type 0
ClausesAre text at from (Ok c) next = ClausesDone text at from c next
ClausesAre text at from (Err r) next = clauses text at ParseState.Clause no_clauses (words_from text from) ≡ Err r

-- the statement of the name and the clauses from a place on, and where they end
pub record NamedDone (text : List ℕ) (at level : ℕ) (from : Cursor) (s : Statement) (next : Cursor) : Type 0 where
  pub is : named text at level (words_from text from) ≡ Ok s
  pub fits : StatementFits text s
  pub ends : Ends text from next

-- what an answer says of the words after the level
abbrev pub NamedAre : List ℕ → ℕ → ℕ → Cursor → Answer Statement → Cursor → Type 0
NamedAre text at level from (Ok s) next = NamedDone text at level from s next
NamedAre text at level from (Err r) next = named text at level (words_from text from) ≡ Err r

-- ---------------------------------------------------------------- the first statement of the tokens

-- the other statements, and the first literal that is left open, are those from `next` on, which is `low` or after it
pub record Followed (ts : List Token) (text : List ℕ) (low : ℕ) (next : Cursor) : Type 0 where
  pub all_are : sentences ts ≡ first_words ts ∷ sentences (tokens_at text next)
  pub opens : first_open ts ≡ first_open (tokens_at text next)
  pub up : low ≤ next.at
  pub within : next.at ≤ length text

-- the first statement is kept
pub record FirstKept (ts : List Token) (text : List ℕ) (low : ℕ) (s : Statement) (next : Cursor) : Type 0 where
  pub is : statement text (first_words ts) ≡ Ok (Some s)
  pub fits : StatementFits text s
  pub followed : Followed ts text low next

-- it is skipped
pub record FirstSkipped (ts : List Token) (text : List ℕ) (low : ℕ) (next : Cursor) : Type 0 where
  pub is : statement text (first_words ts) ≡ Ok None
  pub followed : Followed ts text low next

-- it is refused
pub record FirstRefused (ts : List Token) (text : List ℕ) (r : Refusal) : Type 0 where
  pub is : statement text (first_words ts) ≡ Err r
  pub all_are : sentences ts ≡ first_words ts ∷ sentences (after_stop ts)

-- there is none: the tokens end where the reader stands at `next`
pub record FirstNone (ts : List Token) (text : List ℕ) (next : Cursor) : Type 0 where
  pub ends : ts ≡ unless_open next.literals Newline []
  pub within : next.at ≤ length text

-- what an answer says of the first statement of the tokens, where the reader stands at `next` then
abbrev pub FirstStatement : List Token → List ℕ → ℕ → Answer StatementRead → Cursor → Type 0
FirstStatement ts text low (Ok (StatementRead.Kept s)) next = FirstKept ts text low s next
FirstStatement ts text low (Ok StatementRead.Skipped) next = FirstSkipped ts text low next
FirstStatement ts text low (Ok StatementRead.End) next = FirstNone ts text next
FirstStatement ts text low (Err r) next = FirstRefused ts text r
