-- What the words of one statement say: `parse_stmt` of the Rust. The reader goes word by word, and expects something at
-- each. First word: level, 0 to 255. Level 88 is skipped. Second word: name, whatever it says. Then clauses.
-- The last OCCURS gives the count, the TO bound if present; an earlier DEPENDING ON name stays. VALUE ends the reading.
-- Of several usage words the last holds.
-- Departures from COBOL: words that begin no clause are passed over; a clause said again replaces the earlier one; a
-- bare PIC or REDEFINES at the end takes an earlier one back; levels 66 and 77 are levels like any other.
-- Assumes nothing.
use Rattle.std.specs.Prelude.{ℕ, suc, Bool, true, false, ◌||◌, List, [], ◌∷◌, eqb, leb, if◌then◌else◌}
use Prim.Native.String.{String}
use Rattle.std.specs.Prelude.{Option, None, Some, Result}
use Rattle.definition.specs.declared.Span.{Span}
use Rattle.definition.specs.declared.Usage.{Usage}
use Rattle.definition.specs.declared.ItemUsage.{ItemUsage}
use Rattle.definition.specs.declared.NamedUsage.{NamedUsage}
use Rattle.definition.specs.declared.SignKind.{SignKind}
use Rattle.definition.specs.declared.SignWords.{SignWords}
use Rattle.definition.specs.declared.Clauses.{Clauses}
use Rattle.definition.specs.declared.Keyword.{Keyword}
use Rattle.definition.specs.declared.ParseState.{ParseState}
use Rattle.definition.specs.declared.ParseState.TheVariants.{Clause, IsPicture, APicture, Target, ACount, To, Bound}
use Rattle.definition.specs.declared.ParseState.TheVariants.{Times, DependingOn, OnName, AName, UsageIs, SignIs}
use Rattle.definition.specs.declared.ParseState.TheVariants.{SignWord, Side, Nothing}
use Rattle.definition.specs.declared.Missing.{Missing}
use Rattle.definition.specs.declared.Statement.{Statement}
use Rattle.definition.specs.declared.Refusal.{Refusal}
use Rattle.definition.specs.declared.TheConstants.{MOST_STATEMENTS}
use Rattle.definition.specs.Basic.{bytes, same, uppers, absent, part, number, count, Answer}
use Rattle.definition.specs.Basic.{Ok, Err, ◌>>=◌, refuse_if, or_refuse}

-- ---------------------------------------------------------------- keywords

-- a word in upper case is this keyword: keywords are compared without case against fixed spellings
abbrev pub key : String → List ℕ → Bool
key k u = same u (bytes k)

pub record Spelling : Type 0 where
  pub word : String
  pub means : Keyword

abbrev pub spelt : String → Keyword → Spelling
spelt w k = record { word = w; means = k }

-- the words that begin a clause
abbrev pub spellings : List Spelling
spellings =
    spelt "PIC" Keyword.Picture
    ∷ spelt "PICTURE" Keyword.Picture
    ∷ spelt "REDEFINES" Keyword.Redefines
    ∷ spelt "OCCURS" Keyword.Occurs
    ∷ spelt "USAGE" Keyword.Usage
    ∷ spelt "DISPLAY" (Keyword.Names (ItemUsage.Picture Usage.Display))
    ∷ spelt "COMP-3" (Keyword.Names (ItemUsage.Picture Usage.Comp3))
    ∷ spelt "COMPUTATIONAL-3" (Keyword.Names (ItemUsage.Picture Usage.Comp3))
    ∷ spelt "PACKED-DECIMAL" (Keyword.Names (ItemUsage.Picture Usage.Comp3))
    ∷ spelt "COMP" (Keyword.Names (ItemUsage.Picture Usage.Comp))
    ∷ spelt "COMPUTATIONAL" (Keyword.Names (ItemUsage.Picture Usage.Comp))
    ∷ spelt "COMP-4" (Keyword.Names (ItemUsage.Picture Usage.Comp))
    ∷ spelt "COMPUTATIONAL-4" (Keyword.Names (ItemUsage.Picture Usage.Comp))
    ∷ spelt "COMP-5" (Keyword.Names (ItemUsage.Picture Usage.Comp))
    ∷ spelt "COMPUTATIONAL-5" (Keyword.Names (ItemUsage.Picture Usage.Comp))
    ∷ spelt "BINARY" (Keyword.Names (ItemUsage.Picture Usage.Comp))
    ∷ spelt "COMP-1" (Keyword.Names ItemUsage.Comp1)
    ∷ spelt "COMPUTATIONAL-1" (Keyword.Names ItemUsage.Comp1)
    ∷ spelt "COMP-2" (Keyword.Names ItemUsage.Comp2)
    ∷ spelt "COMPUTATIONAL-2" (Keyword.Names ItemUsage.Comp2)
    ∷ spelt "SIGN" Keyword.Sign
    ∷ spelt "SYNC" Keyword.Sync
    ∷ spelt "SYNCHRONIZED" Keyword.Sync
    ∷ spelt "VALUE" Keyword.Value
    ∷ spelt "VALUES" Keyword.Value
    ∷ []

-- what the spelling says that is the word u in upper case
abbrev pub meaning : List ℕ → List Spelling → Option Keyword
meaning u [] = None
meaning u (s ∷ ss) = if key s.word u then Some s.means else meaning u ss

-- the clause that a word begins, if it is a spelling
unfoldable pub keyword_of : List ℕ → Option Keyword
keyword_of u = meaning u spellings

-- ---------------------------------------------------------------- the clauses, one replaced at a time

abbrev pub clauses_of : Span → Option NamedUsage → Option SignWords → Bool → Option ℕ → Span → Span → Clauses
clauses_of p u s y o d r =
    record { picture = p; usage = u; sign = s; sync = y; occurs = o; depending = d; redefines = r }

abbrev pub sign_words : Bool → Bool → SignWords
sign_words leading separate = record { leading = leading; separate = separate }

abbrev pub no_clauses : Clauses
no_clauses = clauses_of absent None None false None absent absent

abbrev pub with_picture : Span → Clauses → Clauses
with_picture v c = clauses_of v c.usage c.sign c.sync c.occurs c.depending c.redefines

abbrev pub named_usage : ItemUsage → Span → NamedUsage
named_usage u w = record { usage = u; word = w }

abbrev pub with_usage : NamedUsage → Clauses → Clauses
with_usage v c =
    clauses_of c.picture (Some v) c.sign c.sync c.occurs c.depending c.redefines

abbrev pub with_sign : Option SignWords → Clauses → Clauses
with_sign v c = clauses_of c.picture c.usage v c.sync c.occurs c.depending c.redefines

abbrev pub with_sync : Bool → Clauses → Clauses
with_sync v c = clauses_of c.picture c.usage c.sign v c.occurs c.depending c.redefines

abbrev pub with_occurs : ℕ → Clauses → Clauses
with_occurs v c = clauses_of c.picture c.usage c.sign c.sync (Some v) c.depending c.redefines

abbrev pub with_depending : Span → Clauses → Clauses
with_depending v c = clauses_of c.picture c.usage c.sign c.sync c.occurs v c.redefines

abbrev pub with_redefines : Span → Clauses → Clauses
with_redefines v c = clauses_of c.picture c.usage c.sign c.sync c.occurs c.depending v

-- ---------------------------------------------------------------- word by word

-- a word leads on to what is expected next and the clauses so far, or something is missing
abbrev pub Step : Type 0
Step = Result (ParseState × Clauses) Missing

abbrev pub go : ParseState → Clauses → Step
go e c = Ok (e, c)

-- what is missing in a statement that begins at a position
abbrev pub missing : ℕ → Missing → Refusal
missing at Missing.Count = Refusal.BadCount at
missing at Missing.Bound = Refusal.BadBound at
missing at Missing.Name = Refusal.NoDependingName at

-- a count that was read is the number of occurrences, and e is expected next; without one m is missing
abbrev pub counted : Missing → ParseState → Clauses → Option ℕ → Step
counted m e c None = Err m
counted m e c (Some k) = go e (with_occurs k c)

-- where the word w begins a clause, what the next word may be; a word that begins none is passed over
abbrev pub begin : Span → Option Keyword → Clauses → Step
begin w (Some Keyword.Picture) c = go IsPicture (with_picture absent c)
begin w (Some Keyword.Redefines) c = go Target (with_redefines absent c)
begin w (Some Keyword.Occurs) c = go ACount c
begin w (Some Keyword.Usage) c = go UsageIs c
begin w (Some (Keyword.Names u)) c = go Clause (with_usage (named_usage u w) c)
begin w (Some Keyword.Sign) c = go SignIs (with_sign (Some (sign_words false false)) c)
begin w (Some Keyword.Sync) c = go Side (with_sync true c)
begin w (Some Keyword.Value) c = go Nothing c
begin w None c = go Clause c

-- a word w where a clause may begin: u is the word in upper case
abbrev pub on_clause : Span → List ℕ → Clauses → Step
on_clause w u c = begin w (keyword_of u) c

abbrev pub on_depending : Span → List ℕ → Clauses → Step
on_depending w u c = if key "DEPENDING" u then go OnName c else on_clause w u c

abbrev pub on_times : Span → List ℕ → Clauses → Step
on_times w u c = if key "TIMES" u then go DependingOn c else on_depending w u c

-- the word of SIGN: LEADING or not
abbrev pub on_sign : List ℕ → Clauses → Step
on_sign u c = go Clause (with_sign (Some (sign_words (key "LEADING" u) false)) c)

-- the word w, which is u in upper case
unfoldable pub clause_step : ParseState → Span → List ℕ → Clauses → Step
clause_step Clause w u c = on_clause w u c
clause_step IsPicture w u c = if key "IS" u then go APicture c else go Clause (with_picture w c)
clause_step APicture w u c = go Clause (with_picture w c)
clause_step Target w u c = go Clause (with_redefines w c)
clause_step ACount w u c = counted Missing.Count To c (count u)
clause_step To w u c = if key "TO" u then go Bound c else on_times w u c
clause_step Bound w u c = counted Missing.Bound Times c (count u)
clause_step Times w u c = on_times w u c
clause_step DependingOn w u c = on_depending w u c
clause_step OnName w u c = if key "ON" u then go AName c else go Clause (with_depending w c)
clause_step AName w u c = go Clause (with_depending w c)
clause_step UsageIs w u c = if key "IS" u then go Clause c else on_clause w u c
clause_step SignIs w u c = if key "IS" u then go SignWord c else on_sign u c
clause_step SignWord w u c = on_sign u c
clause_step Side w u c = if key "LEFT" u || key "RIGHT" u then go Clause c else on_clause w u c
clause_step Nothing w u c = go Nothing c

-- SEPARATE counts anywhere at or after the word following SIGN [IS]: at the latest SIGN, whatever was expected, and
-- after VALUE too
abbrev pub separately : Option SignWords → Option SignWords
separately None = None
separately (Some w) = Some (record { leading = w.leading; separate = true })

abbrev pub separated : List ℕ → Step → Step
separated u (Err m) = Err m
separated u (Ok (e, c)) = if key "SEPARATE" u then go e (with_sign (separately c.sign) c) else go e c

unfoldable pub step : ParseState → Span → List ℕ → Clauses → Step
step e w u c = separated u (clause_step e w u c)

-- the statement ends: a count, a bound or a name may be missing
abbrev pub finish : ℕ → ParseState → Clauses → Answer Clauses
finish at ACount c = Err (missing at Missing.Count)
finish at Bound c = Err (missing at Missing.Bound)
finish at OnName c = Err (missing at Missing.Name)
finish at AName c = Err (missing at Missing.Name)
finish at Clause c = Ok c
finish at IsPicture c = Ok c
finish at APicture c = Ok c
finish at Target c = Ok c
finish at To c = Ok c
finish at Times c = Ok c
finish at DependingOn c = Ok c
finish at UsageIs c = Ok c
finish at SignIs c = Ok c
finish at SignWord c = Ok c
finish at Side c = Ok c
finish at Nothing c = Ok c

-- the clauses of the words ws of a statement that begins at a position
unfoldable pub clauses : List ℕ → ℕ → ParseState → Clauses → List Span → Answer Clauses
clauses text at e c [] = finish at e c
clauses text at e c (w ∷ ws) =
    elim (step e w (uppers (part text w)) c) [ Ok (e', c') ↦ clauses text at e' c' ws | Err m ↦ Err (missing at m) ]

-- the sign that the words say: one that is not separate is embedded, whether leading or trailing
abbrev pub sign_of : Option SignWords → Option SignKind
sign_of None = None
sign_of (Some w) =
    if w.separate then (if w.leading then Some SignKind.LeadingSeparate else Some SignKind.TrailingSeparate)
    else Some SignKind.Embedded

-- the usage that holds for a statement where `outer` holds around it: its own, else the outer one
abbrev pub held : Option NamedUsage → Option NamedUsage → Option NamedUsage
held outer None = outer
held outer (Some u) = Some u

-- DISPLAY holds where none is named
abbrev pub usage_of : Option NamedUsage → ItemUsage
usage_of None = ItemUsage.Picture Usage.Display
usage_of (Some u) = u.usage

-- ---------------------------------------------------------------- statements

-- a statement by itself; `Usages` has what its groups name
abbrev pub statement_of : ℕ → ℕ → Span → Clauses → Statement
statement_of level at name c =
    record { level = level; at = at; name = name; clauses = c; usage = c.usage }

-- the words after the level: a name, or none, and clauses
unfoldable pub named : List ℕ → ℕ → ℕ → List Span → Answer Statement
named text at level [] = Ok (statement_of level at absent no_clauses)
named text at level (w ∷ ws) = do
  c ← clauses text at Clause no_clauses ws
  Ok (statement_of level at w c)

-- a statement is kept, or skipped: an empty one, and one of level 88
unfoldable pub statement : List ℕ → List Span → Answer (Option Statement)
statement text [] = Ok None
statement text (w ∷ ws) = do
  level ← or_refuse (Refusal.BadLevel w.start) (number 256 (part text w))
  if eqb level 88 then Ok None else do
    s ← named text w.start level ws
    Ok (Some s)

-- the kept statements, of which there may be `MOST_STATEMENTS`: n are kept already
unfoldable pub statements : List ℕ → ℕ → List (List Span) → Answer (List Statement)
statements text n [] = Ok []
statements text n (ws ∷ wss) = do
  r ← statement text ws
  elim r [
    | None ↦ statements text n wss
    | Some s ↦ do
      _ ← refuse_if (leb MOST_STATEMENTS n) (Refusal.TooManyStatements s.at)
      ss ← statements text (suc n) wss
      Ok (s ∷ ss)
  ]
