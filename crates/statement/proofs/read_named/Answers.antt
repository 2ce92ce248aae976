-- `statement::read_named` meets its contract: a name and clauses, or the statement ends.
use Prim.Native.Nat.{ℕ, ◌<◌, ◌≤◌}
use mathlib.Core.Path.{◌≡◌, refl, ap, ◌∙◌}
use mathlib.Core.List.{List, []}
use mathlib.Core.Logic.{◌⊎◌, ⊎_elim}
use native.Mathlib.Omega.{arith}
use lib.ListN.{length}
use Rattle.definition.specs.declared.Clauses.{Clauses}
use Rattle.definition.specs.declared.Refusal.{Refusal}
use Rattle.definition.specs.declared.Span.{Span}
use Rattle.definition.specs.declared.Statement.{Statement}
use Rattle.definition.specs.declared.Token.{Token}
use Rattle.definition.specs.Basic.{absent, Err}
use Rattle.definition.proofs.Answers.{handed_on}
use Rattle.definition.specs.Statement.{no_clauses, clauses, statement_of, named}
use Rattle.definition.specs.declared.ParseState.{ParseState}
use Rattle.definition.proofs.StatementLaws.{named_none, named-given, named-refused}
use Rattle.definition.specs.Words.{first_words}
use Rattle.definition.proofs.WordLaws.{end-words}
use Rattle.text.specs.declared.tokens.Next.{Next}
use Rattle.text.specs.declared.tokens.Cursor.{Cursor}
use Rattle.text.specs.Tokens.{tokens_at, First, FirstWord, FirstStop, FirstEnd, words_from, Ends}
use Rattle.definition.proofs.SpanLaws.{none-spans}
use Rattle.statement.specs.Places.{SpanInside}
use Rattle.statement.specs.Reading.{ClausesDone, NamedDone}
use Rattle.text.proofs.EndLaws.{reached-start, reached-word, ends-stop, ends-text, ends_on}
use Rattle.statement.proofs.read_named.Goals as goal

module _ (t : List ℕ) (at level : ℕ) (from : Cursor) (h : from.at ≤ length t) where
  -- the words after the level, where the tokens from the place on are known
  tokens-named : {ts : List Token} → tokens_at t from ≡ ts → named t at level (words_from t from) ≡ named t at level (first_words ts)
  tokens-named p = ap (λ (vs : List Token). named t at level (first_words vs)) p

  module _ {n : Cursor} {w : Span} (f : FirstWord (tokens_at t from) t from.at w n) where
    -- a name, and its clauses are read, or refused
    done : {c : Clauses} {m : Cursor} {o : Statement} → at < length t → ClausesDone t at n c m → o ≡ statement_of level at w c → NamedDone t at level from o m
    done b d q =
        rw q
        (record {
          is = tokens-named f.all_are ∙ named-given t at level w (words_from t n) d.is;
          fits = record { begins = b; name = f.fits; clauses = d.fits };
          ends = ends_on (reached-word (reached-start h) f) d.ends;
        })

    refused : {x : Refusal} → clauses t at ParseState.Clause no_clauses (words_from t n) ≡ Err x → named t at level (words_from t from) ≡ Err x
    refused d = tokens-named f.all_are ∙ named-refused t at level w (words_from t n) d

  module _ {c : Clauses} {o : Statement} {n : Cursor} (b : at < length t) (p : c ≡ no_clauses) (k : o ≡ statement_of level at absent c) where
    -- there are none
    bare : named t at level (words_from t from) ≡ named t at level [] → Ends t from n → NamedDone t at level from o n
    bare q e =
        rw (k, p)
        (record {
          is = q ∙ named_none t at level;
          fits = record { begins = b; name = omega arith; clauses = none-spans (SpanInside t) (omega arith) };
          ends = e;
        })

    -- the statement ends at its period, or with the text
    stopped : FirstStop (tokens_at t from) t from.at n → NamedDone t at level from o n
    stopped f = bare (tokens-named f.all_are) (ends-stop (reached-start h) f)

    ended : FirstEnd (tokens_at t from) t from.at n → NamedDone t at level from o n
    ended f = bare (tokens-named f.opens ∙ ap (named t at level) (end-words n.literals)) (ends-text (reached-start h) f)

    -- so it ends
    none : (x : Next) → First (tokens_at t from) t from.at x n → (x ≡ Next.Stop) ⊎ (x ≡ Next.End) → NamedDone t at level from o n
    none (Next.Word w) f h = ⊎_elim (λ e. absurd (cc)) (λ e. absurd (cc)) h
    none Next.Stop f h = stopped f
    none Next.End f h = ended f

pub returns-in_err-c-in-Word : goal.returns-in_err-c-in-Word
returns-in_err-c-in-Word c =
    let a = c.args in
    rw (handed_on _ c.from_residual.ensures.1) (refused a.text.now a.at a.level a.cursor.now c.requires.1 c.in-Word.ensures c.in_err-c-in-Word.ensures)

pub returns-in_ok-c-in-Word : goal.returns-in_ok-c-in-Word
returns-in_ok-c-in-Word c =
    let a = c.args in
    done a.text.now a.at a.level a.cursor.now c.requires.1 c.in-Word.ensures c.requires.0 c.in_ok-c-in-Word.ensures c.statement_of.ensures

pub returns-in-Stop : goal.returns-in-Stop
returns-in-Stop c =
    let a = c.args in
    none a.text.now a.at a.level a.cursor.now c.requires.1 c.requires.0 refl c.statement_of-in-Stop.ensures c.word_at.result c.word_at.ensures c.in-Stop.is
