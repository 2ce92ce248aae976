-- What holds of every word of the statements, and of an absent span, holds of every span of the kept statements, and of
-- every span of the entries that are laid from them.
-- Assumes nothing.
use Prim.Native.Nat.{ℕ, suc, ◌+◌, max}
use mathlib.Core.Path.{◌≡◌, subst, sym}
use mathlib.Core.Bool.{Bool, ◌||◌}
use mathlib.Core.List.{List, [], ◌∷◌}
use Rattle.std.specs.Prelude.{Option, None, Some}
use native.Mathlib.Omega.{arith}
use lib.Dec.{leb}
use Rattle.definition.specs.declared.Clauses.{Clauses}
use Rattle.definition.specs.declared.ParseState.{ParseState}
use Rattle.definition.specs.declared.ParseState.TheVariants.{Clause, IsPicture, APicture, Target, ACount, To}
use Rattle.definition.specs.declared.ParseState.TheVariants.{Bound, Times, DependingOn, OnName, AName, UsageIs}
use Rattle.definition.specs.declared.ParseState.TheVariants.{SignIs, SignWord, Side, Nothing}
use Rattle.definition.specs.declared.Keyword.{Keyword}
use Rattle.definition.specs.declared.Missing.{Missing}
use Rattle.definition.specs.declared.NamedUsage.{NamedUsage}
use Rattle.definition.specs.declared.Span.{Span}
use Rattle.definition.specs.declared.Refusal.{Refusal}
use Rattle.definition.specs.declared.Statement.{Statement}
use Rattle.definition.specs.declared.Entry.{Entry}
use Rattle.definition.specs.declared.Refusal.{Refusal}
use Rattle.definition.specs.declared.TheConstants.{MOST_STATEMENTS}
use Rattle.std.specs.Prelude.{if◌then◌else◌}
use Rattle.definition.specs.Basic.{absent, count, uppers, part, Answer, Err, Ok, ◌>>=◌, and_then}
use Rattle.definition.specs.Basic.{refuse_if}
use Rattle.definition.specs.Tree.{Forest, leaf, item, above, not_above, forest, fields}
use Rattle.definition.specs.Usages.{inheriting, inherit, inherited, record_of}
use Rattle.definition.specs.Fold.{Entries, end, entry, append, entry_end, Place, place_of}
use Rattle.definition.specs.Fold.{rebased, redefiners, with_redefiners, folded_list, folded_below}
use Rattle.definition.specs.Layout.{word_of, advance, Laid, lay}
use Rattle.definition.specs.Record.{layout}
use Rattle.definition.specs.Demand.{EntrySpans, EachSpan}
use Rattle.definition.specs.Statement.{no_clauses}
use Rattle.definition.specs.Statement.{Step, missing, go, key, keyword_of, begin, on_clause, on_depending, on_times, counted}
use Rattle.definition.specs.Statement.{clause_step, separated, step, finish, clauses, named, statement}
use Rattle.definition.specs.Statement.{statements, held}
use Rattle.definition.proofs.Answers.{through, given-same}
use Rattle.definition.proofs.Cover.{entry_laid, item-laid, laid-out}

-- what holds of the word that names a usage, where one is named
abbrev pub UsageSpan : (Span → Type 0) → Option NamedUsage → Type 0
UsageSpan P None = Unit {0}
UsageSpan P (Some u) = P u.word

-- what holds of the spans of clauses, and of a statement
pub record Spans (P : Span → Type 0) (c : Clauses) : Type 0 where
  pub picture : P c.picture
  pub usage : UsageSpan P c.usage
  pub depending : P c.depending
  pub redefines : P c.redefines

pub record StatementSpans (P : Span → Type 0) (s : Statement) : Type 0 where
  pub name : P s.name
  pub clauses : Spans P s.clauses
  pub usage : UsageSpan P s.usage

module _ (P : Span → Type 0) where
  -- ---------------------------------------------------------------- clauses and statements

  -- of the clauses that a step leads to
  abbrev pub StepSpans : Step → Type 0
  StepSpans (Ok (e, c)) = Spans P c
  StepSpans (Err m) = Unit

  -- of those that a statement ends with, whatever was expected
  abbrev pub AnswerSpans : Answer Clauses → Type 0
  AnswerSpans (Ok c) = Spans P c
  AnswerSpans (Err r) = Unit

  pub finish-spans : (at : ℕ) (e : ParseState) {c : Clauses} → Spans P c → AnswerSpans (finish at e c)
  finish-spans at e f = grind arith

  -- of every word of a statement, and of all statements
  abbrev pub Words : List Span → Type 0
  Words [] = Unit {0}
  Words (w ∷ ws) = P w × Words ws

  abbrev pub Sentences : List (List Span) → Type 0
  Sentences [] = Unit {0}
  Sentences (ws ∷ wss) = Words ws × Sentences wss

  -- of a statement that is kept
  abbrev Kept : Option Statement → Type 0
  Kept None = Unit {0}
  Kept (Some s) = StatementSpans P s

  abbrev pub AllSpans : List Statement → Type 0
  AllSpans [] = Unit {0}
  AllSpans (s ∷ ss) = StatementSpans P s × AllSpans ss

  -- ---------------------------------------------------------------- the forest of the statements

  abbrev pub ForestSpans : Forest → Type 0
  ForestSpans leaf = Unit {0}
  ForestSpans (item s kids later) = StatementSpans P s × ForestSpans kids × ForestSpans later

  above-spans : (n : ℕ) (f : Forest) → ForestSpans f → ForestSpans (above n f)
  unfolding above
  above-spans n leaf x = tt
  above-spans n (item s kids later) x = grind (arith, above-spans n later)

  not_above-spans : (n : ℕ) (f : Forest) → ForestSpans f → ForestSpans (not_above n f)
  unfolding not_above
  not_above-spans n leaf x = tt
  not_above-spans n (item s kids later) x = grind (arith, not_above-spans n later)

  forest-spans : (ss : List Statement) → AllSpans ss → ForestSpans (forest ss)
  unfolding forest
  forest-spans [] a = tt
  forest-spans (s ∷ ss) a =
      let ih = forest-spans ss a.1 in
      (a.0, above-spans s.level (forest ss) ih, not_above-spans s.level (forest ss) ih)

  held-span : (outer own : Option NamedUsage) → UsageSpan P outer → UsageSpan P own → UsageSpan P (held outer own)
  held-span outer own x y = grind arith

  inherit-spans : (u : Option NamedUsage) (f : Forest) → UsageSpan P u → ForestSpans f → ForestSpans (inherit u f)
  unfolding inherit
  inherit-spans u leaf y x = tt
  inherit-spans u (item s kids later) y x =
      let own = held-span u s.clauses.usage y x.0.clauses.usage in (
        record { name = x.0.name; clauses = x.0.clauses; usage = own },
        inherit-spans (inheriting u s).usage kids own x.1,
        inherit-spans u later y x.2,
      )

  fields-spans : (f : Forest) → ForestSpans f → ForestSpans (fields f)
  unfolding fields
  fields-spans f x = grind arith

  -- of every span of the fields of the record
  pub record-spans : (ss : List Statement) → AllSpans ss → ForestSpans (record_of ss)
  record-spans ss a =
      fields-spans (inherited (forest ss)) (inherit-spans None (forest ss) tt (forest-spans ss a))

  -- ---------------------------------------------------------------- the entries that are laid from it

  append-spans : (a b : Entries) → EachSpan P a → EachSpan P b → EachSpan P (append a b)
  unfolding append
  append-spans end b x y = y
  append-spans (entry e m later) b x y = (x.0, x.1, append-spans later b x.2 y)

  -- ---------------------------------------------------------------- what holds of an absent span too

  module _ (nothing : P absent) where
    -- of no clauses, and where one span is replaced
    pub none-spans : Spans P no_clauses
    none-spans = record { picture = nothing; usage = tt; depending = nothing; redefines = nothing }

    -- a word, by what is expected
    module _ (w : Span) (u : List ℕ) (c : Clauses) (h : P w) (f : Spans P c) where
      by-test : (b : Bool) (x y : Step) → StepSpans x → StepSpans y → StepSpans (if b then x else y)
      by-test b x y p q = grind arith

      begin-spans : (k : Option Keyword) → StepSpans (begin w k c)
      begin-spans k = grind (arith, nothing)

      depending-spans : StepSpans (on_depending w u c)
      depending-spans = by-test (key "DEPENDING" u) (go OnName c) (on_clause w u c) f (begin-spans (keyword_of u))

      times-spans : StepSpans (on_times w u c)
      times-spans = by-test (key "TIMES" u) (go DependingOn c) (on_depending w u c) f depending-spans

      counted-spans : (m : Missing) (e : ParseState) (o : Option ℕ) → StepSpans (counted m e c o)
      counted-spans m e o = grind arith

      clause-step-spans : (e : ParseState) → StepSpans (clause_step e w u c)
      unfolding clause_step
      clause-step-spans Clause = begin-spans (keyword_of u)
      clause-step-spans To = by-test (key "TO" u) (go Bound c) (on_times w u c) f times-spans
      clause-step-spans Times = times-spans
      clause-step-spans DependingOn = depending-spans
      clause-step-spans UsageIs = by-test (key "IS" u) (go Clause c) (on_clause w u c) f (begin-spans (keyword_of u))
      clause-step-spans Side =
          by-test (key "LEFT" u || key "RIGHT" u) (go Clause c) (on_clause w u c) f (begin-spans (keyword_of u))
      clause-step-spans ACount = counted-spans Missing.Count To (count u)
      clause-step-spans Bound = counted-spans Missing.Bound Times (count u)
      clause-step-spans IsPicture = grind arith
      clause-step-spans APicture = grind arith
      clause-step-spans Target = grind arith
      clause-step-spans OnName = grind arith
      clause-step-spans AName = grind arith
      clause-step-spans SignIs = grind arith
      clause-step-spans SignWord = grind arith
      clause-step-spans Nothing = f

    -- SEPARATE
    separated-spans : (u : List ℕ) (s : Step) → StepSpans s → StepSpans (separated u s)
    separated-spans u s f = grind arith

    -- a step, at a word of which it holds
    pub step-spans : (e : ParseState) (w : Span) (u : List ℕ) (c : Clauses) → P w → Spans P c → StepSpans (step e w u c)
    unfolding step
    step-spans e w u c h f = separated-spans u (clause_step e w u c) (clause-step-spans w u c h f e)

    after-step :
        (text : List ℕ) (at : ℕ) (ws : List Span) {d : Clauses} (s : Step) →
        StepSpans s →
        ((e : ParseState) (c : Clauses) → Spans P c → clauses text at e c ws ≡ Ok d → Spans P d) →
        ◌≡◌ {A = Answer Clauses} (elim s [ Ok (e, c) ↦ clauses text at e c ws | Err m ↦ Err (missing at m) ]) (Ok d) →
        Spans P d
    after-step text at ws s g ih k = grind arith

    clauses-spans :
        (ws : List Span) (text : List ℕ) (at : ℕ) (e : ParseState) (c : Clauses) {d : Clauses} →
        Words ws →
        Spans P c →
        clauses text at e c ws ≡ Ok d →
        Spans P d
    unfolding clauses
    clauses-spans [] text at e c a f h = subst AnswerSpans h (finish-spans at e f)
    clauses-spans (w ∷ ws) text at e c a f h =
        let u = uppers (part text w) in
        after-step text at ws (step e w u c) (step-spans e w u c a.0 f)
        (λ e' c' g k. clauses-spans ws text at e' c' a.1 g k) h

    named-spans :
        (text : List ℕ) (at level : ℕ) (ws : List Span) {s : Statement} →
        Words ws →
        named text at level ws ≡ Ok s →
        StatementSpans P s
    unfolding named
    named-spans text at level [] a h =
        subst (StatementSpans P) (given-same h) (record { name = nothing; clauses = none-spans; usage = tt })
    named-spans text at level (w ∷ ws) a h =
        through _ _ h λ c e k.
        let said = clauses-spans ws text at Clause no_clauses a.1 none-spans e in
        subst (StatementSpans P) (given-same k) (record { name = a.0; clauses = said; usage = said.usage })

    statement-spans :
        (text : List ℕ) (ws : List Span) {r : Option Statement} →
        Words ws →
        statement text ws ≡ Ok r →
        Kept r
    unfolding statement and_then
    statement-spans text ws a h = grind (arith, named-spans)

    after-statement :
        (text : List ℕ) (n : ℕ) (wss : List (List Span)) {ss : List Statement} (r : Option Statement) →
        Kept r →
        ((m : ℕ) (ts : List Statement) → statements text m wss ≡ Ok ts → AllSpans ts) →
        ◌≡◌ {A = Answer (List Statement)} (elim r [
          | None ↦ statements text n wss
          | Some s ↦
              refuse_if (leb MOST_STATEMENTS n) (Refusal.TooManyStatements s.at) >>= λ _. statements text (suc n) wss >>= λ ts. Ok (s ∷ ts)
        ]) (Ok ss) →
        AllSpans ss
    unfolding and_then
    after-statement text n wss r g ih h = grind arith

    -- of every span of the kept statements
    pub statements-spans :
        (wss : List (List Span)) (text : List ℕ) (n : ℕ) {ss : List Statement} →
        Sentences wss →
        statements text n wss ≡ Ok ss →
        AllSpans ss
    unfolding statements
    statements-spans [] text n a h = subst AllSpans (given-same h) tt
    statements-spans (ws ∷ wss) text n a h =
        through _ _ h λ r e k.
        let ih : (m : ℕ) (ts : List Statement) → statements text m wss ≡ Ok ts → AllSpans ts =
        λ m ts q. statements-spans wss text m a.1 q in
        after-statement text n wss r (statement-spans text ws a.0 e) ih k

    word-span : (u : Option NamedUsage) → UsageSpan P u → P (word_of u)
    word-span u x = grind (arith, nothing)

    laid-spans :
        (text : List ℕ) (f : Forest) (depth base : ℕ) (seen : List Place) (cursor reach : ℕ) (l : Laid) →
        ForestSpans f →
        lay text depth base seen cursor reach f ≡ Ok l →
        EachSpan P l.entries
    unfolding lay
    laid-spans text leaf depth base seen cursor reach l x h =
        subst (λ (y : Laid). EachSpan P y.entries) (given-same h) tt
    laid-spans text (item s kids later) depth base seen cursor reach l x h =
        let r = item-laid text depth base seen cursor reach s kids later l h in
        let e = entry_laid text s kids cursor r.has r.offset r.inner in
        let c = x.0.clauses in
        let ihs = laid-spans text later depth base (place_of e ∷ seen) (advance cursor e) (max reach (entry_end e)) in
        subst (λ (y : Laid). EachSpan P y.entries) (sym r.result) (
          record {
            name = x.0.name;
            picture = c.picture;
            usage = word-span s.usage x.0.usage;
            depending = c.depending;
            redefines = c.redefines;
            over = c.redefines;
          },
          laid-spans text kids (suc depth) (base + r.offset) [] 0 0 r.inner x.1 r.inner-laid,
          ihs r.rest x.2 r.later-laid,
        )

    rebased-spans : (start : ℕ) (e : Entry) → EntrySpans P e → EntrySpans P (rebased start e)
    rebased-spans start e x =
        record {
          name = x.name;
          picture = x.picture;
          usage = x.usage;
          depending = x.depending;
          redefines = nothing;
          over = x.over;
        }

    module _ (text : List ℕ) where
      redefiners-spans : (base : Place) (es : Entries) → EachSpan P es → EachSpan P (redefiners text base es)
      unfolding redefiners
      redefiners-spans base end x = tt
      redefiners-spans base (entry e m later) x =
          grind (arith, rebased-spans base.offset e x.0, redefiners-spans base later x.2)

      members-spans :
          (b : Bool) (e : Entry) (m rs : Entries) →
          EntrySpans P e →
          EachSpan P m →
          EachSpan P rs →
          EachSpan P (if b then append m rs else entry (rebased e.offset e) m rs)
      members-spans b e m rs x y z = grind (arith, append-spans m rs y z, rebased-spans e.offset e x)

      union-spans :
          (e : Entry) (m rs later : Entries) →
          EntrySpans P e →
          EachSpan P m →
          EachSpan P rs →
          EachSpan P later →
          EachSpan P (with_redefiners text e m rs later)
      union-spans e m rs later x y z w = grind (arith, members-spans, nothing)

      folded-spans : (es : Entries) (bases : List Place) → EachSpan P es → EachSpan P (folded_list text bases es)
      unfolding folded_list
      folded-spans end bases x = tt
      folded-spans (entry e m later) bases x =
          grind (
            arith,
            folded-spans later bases x.2,
            folded-spans later (place_of e ∷ bases) x.2,
            union-spans e m (redefiners text (place_of e) later) (folded_list text (place_of e ∷ bases) later),
            redefiners-spans (place_of e) later x.2,
          )

      below-spans : (es : Entries) → EachSpan P es → EachSpan P (folded_below text es)
      unfolding folded_below
      below-spans end x = tt
      below-spans (entry e m later) x =
          (x.0, folded-spans (folded_below text m) [] (below-spans m x.1), below-spans later x.2)

      -- of every span of the entries of a listing
      pub layout-spans : (f : Forest) (es : Entries) → ForestSpans f → layout text f ≡ Ok es → EachSpan P es
      unfolding layout
      layout-spans f es x h =
          through _ _ h λ us e h₁.
          let r = laid-out text f us e in
          let laid = subst (EachSpan P) r.is (laid-spans text f 0 0 [] 0 0 r.list x r.list-laid) in
          subst (EachSpan P) (given-same h₁) (folded-spans (folded_below text us) [] (below-spans us laid))
