-- `statement::read_levelled` meets its contract, by the level.
use Prim.Native.Nat.{ℕ}
use mathlib.Core.Path.{◌≡◌, sym, ap, ◌∙◌}
use mathlib.Core.List.{List, ◌∷◌}
use Rattle.std.specs.Prelude.{Option, None, Some}
use Rattle.definition.specs.declared.Refusal.{Refusal}
use Rattle.definition.specs.declared.Span.{Span}
use Rattle.definition.specs.declared.Statement.{Statement}
use Rattle.definition.specs.declared.Token.{Token}
use Rattle.definition.specs.declared.Token.TheVariants.{Word}
use Rattle.definition.specs.Basic.{part, number, Err}
use Rattle.definition.proofs.Answers.{handed_on}
use Rattle.definition.specs.Statement.{named}
use Rattle.definition.specs.Words.{first_open, sentences, first_words}
use Rattle.definition.proofs.StatementLaws.{statement-bad, statement-skipped, statement-kept, statement-refused}
use Rattle.definition.proofs.WordLaws.{sentences-word, open_after}
use Rattle.text.specs.declared.tokens.Cursor.{Cursor}
use Rattle.text.specs.Tokens.{tokens_at, words_from, Ends}
use Rattle.statement.specs.Reading.{NamedDone, Followed, FirstKept, FirstSkipped, FirstRefused}
use Rattle.statement.proofs.read_levelled.Goals as goal

module _ (t : List ℕ) (w : Span) (from : Cursor) {v : Option ℕ} (p : v ≡ number 256 (part t w)) where
  -- the tokens of the statement
  abbrev all : List Token
  all = Word w ∷ tokens_at t from

  -- the statements after it are those after its end
  followed : {n : Cursor} → Ends t from n → Followed all t from.at n
  unfolding first_open
  followed e =
      record {
        all_are = sentences-word (tokens_at t from) w ∙ ap (λ (ts : List Token). first_words all ∷ sentences ts) e.rest;
        opens = sym (open_after (tokens_at t from)) ∙ ap first_open e.rest;
        up = e.up;
        within = e.within;
      }

  -- the first word is no level
  bad : v ≡ None → FirstRefused all t (Refusal.BadLevel w.start)
  bad e = record { is = statement-bad t w (words_from t from) (sym p ∙ e); all_are = sentences-word (tokens_at t from) w }

  module _ {k : ℕ} (e : v ≡ Some k) where
    -- 88 is skipped
    skipped : {n : Cursor} → k ≡ 88 → Ends t from n → FirstSkipped all t from.at n
    skipped q h = record { is = statement-skipped t w (words_from t from) (sym p ∙ e) q; followed = followed h }

    module _ (q : k ≡ 88 → ⊥) where
      -- any other is kept, or refused for what follows
      kept : {x : Statement} {n : Cursor} → NamedDone t w.start k from x n → FirstKept all t from.at x n
      kept d = record { is = statement-kept t w (words_from t from) (sym p ∙ e) q d.is; fits = d.fits; followed = followed d.ends }

      refused : {x : Refusal} → named t w.start k (words_from t from) ≡ Err x → FirstRefused all t x
      refused d = record { is = statement-refused t w (words_from t from) (sym p ∙ e) q d; all_are = sentences-word (tokens_at t from) w }

pub returns-in-Some-eq88 : goal.returns-in-Some-eq88
returns-in-Some-eq88 c =
    let a = c.args in
    let o = c.in-Some-eq88 in
    skipped a.text.now a.first a.cursor.now (c.level_of.ensures ∙ ap (number 256) c.part_of.ensures) o.is o.field-0-test c.skip_statement.ensures

pub returns-in_ok-s-in-Some : goal.returns-in_ok-s-in-Some
returns-in_ok-s-in-Some c =
    let a = c.args in
    kept a.text.now a.first a.cursor.now (c.level_of.ensures ∙ ap (number 256) c.part_of.ensures) c.in-Some.is c.in-Some.level-test.1 c.in_ok-s-in-Some.ensures

pub returns-in_err-s-in-Some : goal.returns-in_err-s-in-Some
returns-in_err-s-in-Some c =
    let a = c.args in
    rw (handed_on _ c.from_residual.ensures.1) (refused a.text.now a.first a.cursor.now (c.level_of.ensures ∙ ap (number 256) c.part_of.ensures) c.in-Some.is c.in-Some.level-test.1 c.in_err-s-in-Some.ensures)

pub returns-in-None : goal.returns-in-None
returns-in-None c = let a = c.args in rw c.from.ensures (bad a.text.now a.first a.cursor.now (c.level_of.ensures ∙ ap (number 256) c.part_of.ensures) c.in-None.is)
