-- One step of the reading of a statement's clauses, of a statement, and of the list of statements.
-- Assumes nothing.
use Prim.Native.Nat.{ℕ, suc, ◌≤◌, ◌<◌}
use mathlib.Core.Path.{◌≡◌, refl}
use mathlib.Core.List.{List, [], ◌∷◌}
use Rattle.std.specs.Prelude.{None, Some}
use borrow.Author.Tests.{eq-eqb, ne_eqb, le-leb, lt-leb}
use Rattle.definition.specs.declared.Span.{Span}
use Rattle.definition.specs.declared.Clauses.{Clauses}
use Rattle.definition.specs.declared.ParseState.{ParseState}
use Rattle.definition.specs.declared.Missing.{Missing}
use Rattle.definition.specs.declared.Statement.{Statement}
use Rattle.definition.specs.declared.Refusal.{Refusal}
use Rattle.definition.specs.declared.TheConstants.{MOST_STATEMENTS}
use Rattle.definition.specs.Basic.{uppers, absent, part, number, Err, Ok, ◌>>=◌, and_then}
use Rattle.definition.specs.Statement.{no_clauses, missing, step, finish, clauses, statement_of, named, statement}
use Rattle.definition.specs.Statement.{statements}

-- ---------------------------------------------------------------- clauses

module _ (text : List ℕ) (at : ℕ) (e : ParseState) (c : Clauses) where
  pub clauses-none : clauses text at e c [] ≡ finish at e c
  unfolding clauses
  clauses-none = refl

  module _ (w : Span) (ws : List Span) where
    pub clauses-go :
        {e' : ParseState} {c' : Clauses} →
        step e w (uppers (part text w)) c ≡ Ok (e', c') →
        clauses text at e c (w ∷ ws) ≡ clauses text at e' c' ws
    unfolding clauses
    clauses-go p = rw (p, clauses)

    pub clauses-fail :
        {m : Missing} →
        step e w (uppers (part text w)) c ≡ Err m →
        clauses text at e c (w ∷ ws) ≡ Err (missing at m)
    unfolding clauses
    clauses-fail p = rw (p, clauses)

-- ---------------------------------------------------------------- a statement

module _ (text : List ℕ) (at level : ℕ) where
  pub named_none : named text at level [] ≡ Ok (statement_of level at absent no_clauses)
  unfolding named
  named_none = refl

  module _ (w : Span) (ws : List Span) where
    pub named-given :
        {c : Clauses} →
        clauses text at ParseState.Clause no_clauses ws ≡ Ok c →
        named text at level (w ∷ ws) ≡ Ok (statement_of level at w c)
    unfolding named and_then
    named-given p = rw p

    pub named-refused :
        {r : Refusal} →
        clauses text at ParseState.Clause no_clauses ws ≡ Err r →
        named text at level (w ∷ ws) ≡ Err r
    unfolding named and_then
    named-refused p = rw p

module _ (text : List ℕ) where
  pub statement-empty : statement text [] ≡ Ok None
  unfolding statement
  statement-empty = refl

  module _ (w : Span) (ws : List Span) where
    pub statement-bad : number 256 (part text w) ≡ None → statement text (w ∷ ws) ≡ Err (Refusal.BadLevel w.start)
    unfolding statement and_then
    statement-bad p = rw p

    module _ {level : ℕ} (p : number 256 (part text w) ≡ Some level) where
      pub statement-skipped : level ≡ 88 → statement text (w ∷ ws) ≡ Ok None
      unfolding statement and_then
      statement-skipped q = rw (p, eq-eqb level 88 q)

      module _ (q : level ≡ 88 → ⊥) where
        pub statement-kept :
            {s : Statement} →
            named text w.start level ws ≡ Ok s →
            statement text (w ∷ ws) ≡ Ok (Some s)
        unfolding statement and_then
        statement-kept h = rw (p, ne_eqb level 88 q, h)

        pub statement-refused : {r : Refusal} → named text w.start level ws ≡ Err r → statement text (w ∷ ws) ≡ Err r
        unfolding statement and_then
        statement-refused h = rw (p, ne_eqb level 88 q, h)

  -- ---------------------------------------------------------------- statements

  module _ (n : ℕ) where
    pub statements-none : statements text n [] ≡ Ok []
    unfolding statements
    statements-none = refl

    module _ (ws : List Span) (wss : List (List Span)) where
      pub statements-refused : {r : Refusal} → statement text ws ≡ Err r → statements text n (ws ∷ wss) ≡ Err r
      unfolding statements and_then
      statements-refused h = rw h

      pub statements-skipped : statement text ws ≡ Ok None → statements text n (ws ∷ wss) ≡ statements text n wss
      unfolding statements and_then
      statements-skipped h = rw h

      module _ {s : Statement} (h : statement text ws ≡ Ok (Some s)) where
        pub statements-full : MOST_STATEMENTS ≤ n → statements text n (ws ∷ wss) ≡ Err (Refusal.TooManyStatements s.at)
        unfolding statements and_then
        statements-full l = rw (h, le-leb MOST_STATEMENTS n l)

        pub statements-kept :
            n < MOST_STATEMENTS →
            statements text n (ws ∷ wss) ≡ (statements text (suc n) wss >>= λ ss. Ok (s ∷ ss))
        unfolding statements and_then
        statements-kept l = rw (h, lt-leb MOST_STATEMENTS n l)
