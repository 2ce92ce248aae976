use Prim.Native.Nat.{ℕ, ◌+◌, ◌≤◌, ◌<◌}
use mathlib.Core.Path.{◌≡◌, subst, sym, ◌∙◌}
use mathlib.Core.Bool.{Bool, true, false}
use mathlib.Core.List.{List}
use native.Mathlib.Omega.{arith}
use lib.ListN.{length, get_or}
use Rattle.definition.specs.declared.Mode.TheVariants.{Between}
use Rattle.definition.specs.declared.LiteralState.TheVariants.{Literal}
use Rattle.definition.specs.Basic.{white}
use Rattle.definition.proofs.WordLaws.{tokens-end, literal-newline, literal-blank, literal-word}
use Rattle.text.specs.Tokens.{Skips, InsideWord, InsideEnd}
use Rattle.text.proofs.tokens.look_inside.Goals as goal

module _ {t : List ℕ} {at i : ℕ} (inv : Skips t at i) where
  -- the text ends, or the line
  done : length t ≤ i → InsideEnd t at (length t)
  done h = let w = inv.within in let e : i ≡ length t = omega arith in subst (InsideEnd t at) e (record { skips = inv; opens = λ m a. tokens-end t (Literal m a) Between i h })

  module _ (h : i < length t) where
    newline : get_or t i 0 ≡ 10 → InsideEnd t at i
    newline e = record { skips = inv; opens = λ m a. literal-newline t m a i h e }

    -- or the byte is white, or begins a word
    module _ (n : get_or t i 0 ≡ 10 → ⊥) {w : Bool} (p : w ≡ white (get_or t i 0)) where
      blank : w ≡ true → Skips t at (i + 1)
      blank y =
          record {
            up = omega (arith, inv.up);
            within = omega arith;
            rest = λ m a. inv.rest m a ∙ literal-blank t m a i h n (sym p ∙ y);
          }

      word : w ≡ false → InsideWord t at i
      word y = record { skips = inv; within = h; begins = λ m a. literal-word t m a i h (sym p ∙ y) }

pub returns-then-b-eq10 : goal.returns-then-b-eq10
returns-then-b-eq10 c = search newline

pub loop-i-preserved : goal.loop-i-preserved
loop-i-preserved c = search blank

pub returns-then-not-is_white : goal.returns-then-not-is_white
returns-then-not-is_white c = search word

pub returns : goal.returns
returns c = done c.loop-i.invariant c.loop-i-test.false
