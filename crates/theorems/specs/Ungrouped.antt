-- The entries where neither DISPLAY nor the words of floats name a usage and each statement has its own usage alone, as
-- in the Rust, but aligned as today, as the Rust's are not (`Original` has both as they were); and the test on a copybook
-- under which they are those of `Calls`, the places of usage words aside (`UngroupedLaws`, of the proofs, says so): no
-- group names a usage, no DISPLAY stands after another usage word, and no word names a float.
-- Assumes nothing.
use Rattle.std.specs.Prelude.{ℕ, suc, Bool, true, false, ◌&&◌, ◌||◌, not, List, [], ◌∷◌, eqb, leb, if◌then◌else◌}
use Prim.Native.String.{String}
use Rattle.std.specs.Prelude.{Option, None, Some}
use Rattle.definition.specs.declared.Span.{Span}
use Rattle.definition.specs.declared.Usage.{Usage}
use Rattle.definition.specs.declared.ItemUsage.{ItemUsage}
use Rattle.definition.specs.declared.NamedUsage.{NamedUsage}
use Rattle.definition.specs.declared.Clauses.{Clauses}
use Rattle.definition.specs.declared.ParseState.{ParseState}
use Rattle.definition.specs.declared.ParseState.TheVariants.{Clause}
use Rattle.definition.specs.declared.Statement.{Statement}
use Rattle.definition.specs.declared.Refusal.{Refusal}
use Rattle.definition.specs.declared.TheConstants.{MOST_STATEMENTS}
use Rattle.definition.specs.Basic.{uppers, absent, part, number, Answer, Err, Ok, ◌>>=◌}
use Rattle.definition.specs.Basic.{refuse_if, or_refuse}
use Rattle.definition.specs.Words.{statement_words}
use Rattle.definition.specs.Statement.{key, no_clauses, missing, step, finish, statement_of}
use Rattle.definition.specs.Tree.{Forest, leaf, item, forest, fields}
use Rattle.definition.specs.Fold.{Entries, end, entry}
use Rattle.definition.specs.Record.{layout}
use Rattle.definition.specs.Listing.{listing}
use Rattle.definition.specs.Calls.{entry_checks, literal_check, kept_statements}

-- ---------------------------------------------------------------- the reading as it was

-- a word in upper case is one of these
abbrev pub is_one_of : List String → List ℕ → Bool
is_one_of [] u = false
is_one_of (k ∷ ks) u = key k u || is_one_of ks u

-- the words that name a usage since
abbrev pub new_words : List String
new_words = "DISPLAY" ∷ "COMP-1" ∷ "COMPUTATIONAL-1" ∷ "COMP-2" ∷ "COMPUTATIONAL-2" ∷ []

-- a word in upper case as it was seen: one of those was none that says something, as the empty word is none
abbrev pub as_seen : List ℕ → List ℕ
as_seen u = if is_one_of new_words u then [] else u

-- the clauses of the words of a statement
unfoldable pub clauses_alone : List ℕ → ℕ → ParseState → Clauses → List Span → Answer Clauses
clauses_alone text at e c [] = finish at e c
clauses_alone text at e c (w ∷ ws) =
    elim (step e w (as_seen (uppers (part text w))) c) [
      | Ok (e', c') ↦ clauses_alone text at e' c' ws
      | Err m ↦ Err (missing at m)
    ]

-- the words after the level, a statement, the kept statements, each as `Statement` has it
unfoldable pub named_alone : List ℕ → ℕ → ℕ → List Span → Answer Statement
named_alone text at level [] = Ok (statement_of level at absent no_clauses)
named_alone text at level (w ∷ ws) = do
  c ← clauses_alone text at Clause no_clauses ws
  Ok (statement_of level at w c)

unfoldable pub statement_alone : List ℕ → List Span → Answer (Option Statement)
statement_alone text [] = Ok None
statement_alone text (w ∷ ws) = do
  level ← or_refuse (Refusal.BadLevel w.start) (number 256 (part text w))
  if eqb level 88 then Ok None else do
    s ← named_alone text w.start level ws
    Ok (Some s)

unfoldable pub statements_alone : List ℕ → ℕ → List (List Span) → Answer (List Statement)
statements_alone text n [] = Ok []
statements_alone text n (ws ∷ wss) = do
  r ← statement_alone text ws
  elim r [
    | None ↦ statements_alone text n wss
    | Some s ↦ do
      _ ← refuse_if (leb MOST_STATEMENTS n) (Refusal.TooManyStatements s.at)
      ss ← statements_alone text (suc n) wss
      Ok (s ∷ ss)
  ]

-- the folded top list: no usage is inherited, and it is laid out as today
unfoldable pub entries_alone : List ℕ → ℕ → Answer Entries
entries_alone text work = do
  _ ← entry_checks text work
  _ ← literal_check text
  ss ← statements_alone text 0 (statement_words text)
  layout text (fields (forest ss))

-- their listing, which shows no usage word
abbrev pub listed : Answer Entries → Answer (List ℕ)
listed a = a >>= λ es. Ok (listing es)

-- entries without the words that name their usages: DISPLAY was no such word
abbrev pub unworded : Entries → Entries
unworded end = end
unworded (entry e members later) = entry (record e { usage = absent }) (unworded members) (unworded later)

abbrev pub but_words : Answer Entries → Answer Entries
but_words a = a >>= λ es. Ok (unworded es)

-- ---------------------------------------------------------------- the test

-- a usage other than DISPLAY
abbrev pub other : ItemUsage → Bool
other (ItemUsage.Picture Usage.Display) = false
other (ItemUsage.Picture Usage.Comp3) = true
other (ItemUsage.Picture Usage.Comp) = true
other ItemUsage.Comp1 = true
other ItemUsage.Comp2 = true

-- a float
abbrev pub float : ItemUsage → Bool
float (ItemUsage.Picture u) = false
float ItemUsage.Comp1 = true
float ItemUsage.Comp2 = true

-- such a usage is named
abbrev pub is_named : (ItemUsage → Bool) → Option NamedUsage → Bool
is_named such None = false
is_named such (Some u) = such u.usage

-- after a usage another is said, or none: no float is named, and no other usage than DISPLAY is taken back
abbrev pub lasts : Option NamedUsage → Option NamedUsage → Bool
lasts u v = not (is_named float v) && (not (is_named other u) || is_named other v)

-- so word by word: DISPLAY and the words of floats may say more where a clause may begin
unfoldable pub lasting : List ℕ → ParseState → Clauses → List Span → Bool
lasting text e c [] = true
lasting text e c (w ∷ ws) =
    elim (step e w (uppers (part text w)) c) [
      | Ok (e', c') ↦ lasts c.usage c'.usage && lasting text e' c' ws
      | Err m ↦ true
    ]

-- level 88 is skipped
abbrev pub is_skipped : Option ℕ → Bool
is_skipped None = false
is_skipped (Some level) = eqb level 88

-- so in a statement of these words, and in all statements
abbrev pub lasting_in : List ℕ → List Span → Bool
lasting_in text [] = true
lasting_in text (w ∷ []) = true
lasting_in text (w ∷ n ∷ ws) = is_skipped (number 256 (part text w)) || lasting text Clause no_clauses ws

unfoldable pub lasting_all : List ℕ → List (List Span) → Bool
lasting_all text [] = true
lasting_all text (ws ∷ wss) = lasting_in text ws && lasting_all text wss

-- a usage is named
abbrev pub names_usage : Option NamedUsage → Bool
names_usage None = false
names_usage (Some u) = true

-- no statement with children names a usage
abbrev pub is_plain : Statement → Forest → Bool
is_plain s leaf = true
is_plain s (item t kids later) = not (names_usage s.clauses.usage)

unfoldable pub plain_groups : Forest → Bool
plain_groups leaf = true
plain_groups (item s kids later) = is_plain s kids && plain_groups kids && plain_groups later

-- so of the kept statements, where they are read
abbrev pub plain_read : Answer (List Statement) → Bool
plain_read (Err r) = true
plain_read (Ok ss) = plain_groups (forest ss)

-- the test: the copybooks for which the Rust has an answer, as far as usages go
abbrev pub plain_usages : List ℕ → Bool
plain_usages text = lasting_all text (statement_words text) && plain_read (kept_statements text)
