use Prim.Native.Nat.{ℕ}
use mathlib.Core.Path.{◌≡◌, refl, sym, ◌∙◌, ap}
use mathlib.Core.List.{List}
use Rattle.definition.specs.Basic.{Answer}
use Rattle.definition.specs.Calls.{literal_check}
use Rattle.definition.specs.declared.Span.{Span}
use Rattle.definition.specs.Words.{first_open}
use Rattle.text.specs.declared.tokens.Next.{Next}
use Rattle.text.specs.declared.tokens.Cursor.{Cursor}
use Rattle.text.specs.Tokens.{tokens_at, First, open_check}
use Rattle.text.proofs.TokenLaws.{ends_open}
use Rattle.text.proofs.words.open_check.Invariants.{Left}
use Rattle.text.proofs.words.open_check.Goals as goal

module _ {t : List ℕ} {s : Cursor} (n : Cursor) (inv : Left t s) where
  passed : (x : Next) → First (tokens_at t s) t s.at x n → Left t n
  unfolding first_open
  passed (Next.Word w) f = record { within = f.within; rest = inv.rest ∙ ap first_open f.all_are }
  passed Next.Stop f = record { within = f.within; rest = inv.rest ∙ ap first_open f.all_are }
  passed Next.End f = record { within = f.within; rest = inv.rest ∙ ap first_open f.all_are }

  done :
      {a : Answer (Unit {0})} (x : Next) →
      First (tokens_at t s) t s.at x n →
      ((w : Span) → x ≡ Next.Word w → ⊥) →
      (x ≡ Next.Stop → ⊥) →
      a ≡ open_check n →
      a ≡ literal_check t
  done (Next.Word w) f h k p = absurd (h w refl)
  done Next.Stop f h k p = absurd (k refl)
  done Next.End f h k p = p ∙ sym (ends_open t n (inv.rest ∙ ap first_open f.opens))

pub loop-preserved : goal.loop-preserved
loop-preserved c = passed _ c.loop.invariant c.word_at.result c.word_at.ensures

pub returns : goal.returns
returns c = done _ c.loop.invariant c.word_at.result c.word_at.ensures c.in_default.not-Word c.in_default.not-Stop c.left_open.ensures
