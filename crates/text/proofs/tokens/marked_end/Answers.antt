use Prim.Native.Nat.{ℕ, ◌+◌, ◌-◌, ◌<◌, ◌≤◌}
use mathlib.Core.Path.{◌≡◌, subst, refl, sym, ◌∙◌}
use mathlib.Core.Bool.{Bool, true, false}
use mathlib.Core.List.{List}
use native.Mathlib.Omega.{arith}
use lib.ListN.{length, get_or}
use Rattle.definition.specs.Basic.{span, part}
use Rattle.definition.proofs.WordLaws.{seen_at, stays_within, word_next, word-stop, word-last}
use Rattle.definition.specs.declared.LiteralState.{LiteralState}
use Rattle.definition.specs.declared.LiteralState.TheVariants.{Before, Value, Literal}
use Rattle.definition.specs.Words.{after_word, after_byte}
use Rattle.std.specs.Prelude.{if◌then◌else◌}
use Rattle.text.specs.Tokens.{AfterValue, WordEnd}
use Rattle.text.proofs.tokens.marked_end.Invariants.{Left}
use Rattle.text.proofs.tokens.marked_end.Goals as goal

-- from VALUE on a word changes nothing, and a byte doesn't take it back
after-after_word : (q : LiteralState) (bs : List ℕ) → AfterValue q → after_word q bs ≡ q
after-after_word (Before n) bs h = absurd h
after-after_word Value bs h = refl
after-after_word (Literal m a) bs h = refl

after-either : (x : Bool) (q r : LiteralState) → AfterValue q → AfterValue r → AfterValue (if x then q else r)
after-either true q r h k = h
after-either false q r h k = k

after-after_byte : (q : LiteralState) (p b : ℕ) → AfterValue q → AfterValue (after_byte q p b)
after-after_byte (Before n) p b h = absurd h
after-after_byte Value p b h = after-either _ (Literal b p) Value tt tt
after-after_byte (Literal m a) p b h = after-either _ Value (Literal m a) tt tt

module _ {t : List ℕ} {at : ℕ} {n : LiteralState} {i : ℕ} {q : LiteralState} (inv : Left t at n i q) where
  done : length t ≤ i → WordEnd t at n (record { at = length t; literals = q })
  done h =
      let w = inv.within in
      let e : i ≡ length t = omega arith in
      subst (λ (m : ℕ). WordEnd t at n (record { at = m; literals = q })) e
      (record {
        up = inv.up;
        within = inv.within;
        rest = λ a. inv.rest a ∙ word-last t q a i h ∙ rw (after-after_word q (part t (span a (i - a))) inv.after);
      })

  module _ (h : i < length t) {r : Bool} (e : r ≡ stays_within (seen_at t q i)) where
    next : {q' : LiteralState} → r ≡ true → q' ≡ after_byte q i (get_or t i 0) → Left t at n (i + 1) q'
    next y g =
        record {
          up = omega arith;
          within = omega arith;
          after = rw g (after-after_byte q i (get_or t i 0) inv.after);
          rest = λ a. inv.rest a ∙ word_next t q a i h (sym e ∙ y) ∙ rw g;
        }

    found : r ≡ false → WordEnd t at n (record { at = i; literals = q })
    found y =
        record {
          up = inv.up;
          within = inv.within;
          rest = λ a. inv.rest a ∙ word-stop t q a i h (sym e ∙ y) ∙ rw (after-after_word q (part t (span a (i - a))) inv.after);
        }

pub loop-i-preserved : goal.loop-i-preserved
loop-i-preserved c = search next

pub returns-then-not-goes_on : goal.returns-then-not-goes_on
returns-then-not-goes_on c = search found

pub returns : goal.returns
returns c = done c.loop-i.invariant c.loop-i-test.false
