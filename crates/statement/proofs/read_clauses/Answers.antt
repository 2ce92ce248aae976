use Prim.Native.Nat.{ℕ}
use mathlib.Core.Path.{◌≡◌, refl, sym, ap, ◌∙◌}
use mathlib.Core.List.{List}
use native.Mathlib.Omega.{arith}
use Rattle.definition.specs.declared.Clauses.{Clauses}
use Rattle.definition.specs.declared.ParseState.{ParseState}
use Rattle.definition.specs.declared.Missing.{Missing}
use Rattle.definition.specs.declared.Span.{Span}
use Rattle.definition.specs.declared.Token.{Token}
use Rattle.definition.specs.Basic.{uppers, part, Answer, Err, Ok}
use Rattle.definition.specs.Statement.{no_clauses, Step, step, missing, finish, clauses}
use Rattle.definition.proofs.StatementLaws.{clauses-none, clauses-go, clauses-fail}
use Rattle.definition.specs.Words.{first_words}
use Rattle.definition.proofs.WordLaws.{end-words}
use Rattle.text.specs.declared.tokens.Next.{Next}
use Rattle.text.specs.declared.tokens.Cursor.{Cursor}
use Rattle.text.specs.Tokens.{tokens_at, First, FirstWord, FirstStop, FirstEnd, words_from, Ends}
use Rattle.definition.proofs.SpanLaws.{step-spans, AnswerSpans, finish-spans}
use Rattle.statement.specs.Places.{SpanInside}
use Rattle.statement.specs.Steps.{led, kept_on}
use Rattle.statement.specs.Reading.{ClausesAre}
use Rattle.text.proofs.EndLaws.{reached-word, ends-stop, ends-text}
use Rattle.statement.proofs.read_clauses.Invariants.{Left}
use Rattle.statement.proofs.read_clauses.Goals as goal

-- a statement that ends before n, with this answer
closes :
    (t : List ℕ) (at : ℕ) (from n : Cursor) (a : Answer Clauses) →
    clauses t at ParseState.Clause no_clauses (words_from t from) ≡ a →
    AnswerSpans (SpanInside t) a →
    Ends t from n →
    ClausesAre t at from a n
closes t at from n (Ok c) p f h = record { is = p; fits = f; ends = h }
closes t at from n (Err r) p f h = p

-- what a step leads on to, or what is missing
led-on : (x : Step) (c : Clauses) {e : ParseState} {d : Clauses} → Ok e ≡ led x → d ≡ kept_on x c → x ≡ Ok (e, d)
led-on (Ok (e, c)) d p q = cc
led-on (Err m) d p q = cc

lacking : (x : Step) {m : Missing} → Err m ≡ led x → x ≡ Err m
lacking (Ok (e, c)) p = cc
lacking (Err m) p = cc

module _ {t : List ℕ} {at : ℕ} {from cursor : Cursor} {e : ParseState} {c : Clauses} (inv : Left t at from cursor e c) where
  -- the clauses, where the tokens from the place on are known
  rest : {ts : List Token} → tokens_at t cursor ≡ ts → clauses t at ParseState.Clause no_clauses (words_from t from) ≡ clauses t at e c (first_words ts)
  rest p = inv.same ∙ ap (λ (ts : List Token). clauses t at e c (first_words ts)) p

  module _ {n : Cursor} {w : Span} (f : FirstWord (tokens_at t cursor) t cursor.at w n) {x : Step} (p : x ≡ step e w (uppers (part t w)) c) where
    -- it leads on, or is refused
    go : {e' : ParseState} {c' : Clauses} → Ok e' ≡ led x → c' ≡ kept_on x c → Left t at from n e' c'
    go {e'} {c'} q y =
        let z : step e w (uppers (part t w)) c ≡ Ok (e', c') = sym p ∙ led-on x c q y in
        record {
          reached = reached-word inv.reached f;
          same = rest f.all_are ∙ clauses-go t at e c w (words_from t n) z;
          fits = rw z at (step-spans (SpanInside t) (omega arith) e w (uppers (part t w)) c f.fits inv.fits);
        }

    fail : {m : Missing} → Err m ≡ led x → ClausesAre t at from (Err (missing at m)) n
    fail q = rest f.all_are ∙ clauses-fail t at e c w (words_from t n) (sym p ∙ lacking x q)

  -- the statement ends at its period, or with the text
  stopped : {n : Cursor} {a : Answer Clauses} → FirstStop (tokens_at t cursor) t cursor.at n → a ≡ finish at e c → ClausesAre t at from a n
  stopped {n} f p =
      rw p (closes t at from n (finish at e c) (rest f.all_are ∙ clauses-none t at e c) (finish-spans (SpanInside t) at e inv.fits) (ends-stop inv.reached f))

  ended : {n : Cursor} {a : Answer Clauses} → FirstEnd (tokens_at t cursor) t cursor.at n → a ≡ finish at e c → ClausesAre t at from a n
  ended {n} f p =
      rw p (closes t at from n (finish at e c) (rest f.opens ∙ ap (clauses t at e c) (end-words n.literals) ∙ clauses-none t at e c) (finish-spans (SpanInside t) at e inv.fits) (ends-text inv.reached f))

  -- so it ends where no word is next
  done : (n : Cursor) {a : Answer Clauses} (x : Next) → First (tokens_at t cursor) t cursor.at x n → ((w : Span) → x ≡ Next.Word w → ⊥) → a ≡ finish at e c → ClausesAre t at from a n
  done n (Next.Word w) f h p = absurd (h w refl)
  done n Next.Stop f h p = stopped f p
  done n Next.End f h p = ended f p

pub returns : goal.returns
returns c = done c.loop-w.invariant _ c.word_at.result c.word_at.ensures c.in_default.not-Word c.finish.ensures

pub loop-w-preserved : goal.loop-w-preserved
loop-w-preserved c = go c.loop-w.invariant c.in-Word.ensures (ap (λ (bs : List ℕ). step c.loop-w.e c.in-Word.w (uppers bs) c.loop-w.c) c.part_of.ensures) c.in-Ok.ensures.0 c.in-Ok.ensures.1

pub returns-in-Err : goal.returns-in-Err
returns-in-Err c = rw c.at.ensures (fail c.loop-w.invariant c.in-Word.ensures (ap (λ (bs : List ℕ). step c.loop-w.e c.in-Word.w (uppers bs) c.loop-w.c) c.part_of.ensures) c.in-Err.ensures.0)
