-- A walk over the tokens of a statement: the place that it has reached, and where the statement ends.
-- Assumes nothing.
use Prim.Native.Nat.{ℕ, ◌≤◌}
use mathlib.Core.Path.{◌≡◌, refl, sym, ap, ◌∙◌}
use mathlib.Core.List.{List}
use native.Mathlib.Omega.{arith}
use lib.ListN.{length}
use Rattle.definition.specs.declared.Span.{Span}
use Rattle.text.specs.declared.tokens.Next.{Next}
use Rattle.text.specs.declared.tokens.Cursor.{Cursor}
use Rattle.definition.proofs.WordLaws.{end_after}
use Rattle.definition.specs.Words.{after_stop}
use Rattle.text.specs.Tokens.{tokens_at, First, FirstWord, FirstStop, FirstEnd, Ends}

-- the statement that goes on at `from` goes on at `cursor`
pub record Reached (t : List ℕ) (from cursor : Cursor) : Type 0 where
  pub up : from.at ≤ cursor.at
  pub within : cursor.at ≤ length t
  pub rest : after_stop (tokens_at t from) ≡ after_stop (tokens_at t cursor)

-- at its first place
pub reached-start : {t : List ℕ} {from : Cursor} → from.at ≤ length t → Reached t from from
reached-start h = record { up = omega arith; within = h; rest = refl }

module _ {t : List ℕ} {from cursor n : Cursor} (inv : Reached t from cursor) where
  -- past a word it goes on
  pub reached-word : {w : Span} → FirstWord (tokens_at t cursor) t cursor.at w n → Reached t from n
  reached-word f = record { up = omega arith; within = f.within; rest = inv.rest ∙ ap after_stop f.all_are }

  -- it ends at its period, or with the text
  pub ends-stop : FirstStop (tokens_at t cursor) t cursor.at n → Ends t from n
  ends-stop f = record { up = omega arith; within = f.within; rest = inv.rest ∙ ap after_stop f.all_are }

  pub ends-text : FirstEnd (tokens_at t cursor) t cursor.at n → Ends t from n
  ends-text f =
      record {
        up = omega arith;
        within = f.within;
        rest = inv.rest ∙ ap after_stop f.opens ∙ end_after n.literals ∙ sym f.opens ∙ f.all_are;
      }

  -- it ends where no word is next
  pub ends-there : (x : Next) → First (tokens_at t cursor) t cursor.at x n → ((w : Span) → x ≡ Next.Word w → ⊥) → Ends t from n
  ends-there (Next.Word w) f h = absurd (h w refl)
  ends-there Next.Stop f h = ends-stop f
  ends-there Next.End f h = ends-text f

-- where it goes on, it ends as from there
pub ends_on : {t : List ℕ} {from cursor n : Cursor} → Reached t from cursor → Ends t cursor n → Ends t from n
ends_on inv e = record { up = omega arith; within = e.within; rest = inv.rest ∙ e.rest }

-- the steps of a walk to the end of a statement
pub ruleset end_steps = (reached-start, reached-word, ends-there)
