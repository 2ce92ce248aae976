use Prim.Native.Nat.{ℕ, ◌+◌, ◌<◌, ◌≤◌}
use mathlib.Core.Path.{◌≡◌, subst, sym, ◌∙◌}
use mathlib.Core.Bool.{Bool, true, false}
use mathlib.Core.List.{List}
use native.Mathlib.Omega.{arith}
use lib.ListN.{length}
use Rattle.definition.specs.declared.LiteralState.TheVariants.{Before}
use Rattle.definition.proofs.WordLaws.{kind_at, stays_within, word_next, word-stop, word-last}
use Rattle.text.specs.Tokens.{PlainEnd}
use Rattle.text.proofs.tokens.word_end.Invariants.{Left}
use Rattle.text.proofs.tokens.word_end.Goals as goal

module _ {t : List ℕ} {at i : ℕ} (inv : Left t at i) where
  done : length t ≤ i → PlainEnd t at (length t)
  done h = let w = inv.within in let e : i ≡ length t = omega arith in subst (PlainEnd t at) e (record { up = inv.up; within = inv.within; rest = λ n s. inv.rest n s ∙ word-last t (Before n) s i h })

  module _ (h : i < length t) {r : Bool} (p : r ≡ stays_within (kind_at t i)) where
    next : r ≡ true → Left t at (i + 1)
    next y = record { up = omega arith; within = omega arith; rest = λ n s. inv.rest n s ∙ word_next t (Before n) s i h (sym p ∙ y) }

    found : r ≡ false → PlainEnd t at i
    found y = record { up = inv.up; within = inv.within; rest = λ n s. inv.rest n s ∙ word-stop t (Before n) s i h (sym p ∙ y) }

pub loop-i-preserved : goal.loop-i-preserved
loop-i-preserved c = search next

pub returns-then-not-goes_on_outside : goal.returns-then-not-goes_on_outside
returns-then-not-goes_on_outside c = search found

pub returns : goal.returns
returns c = done c.loop-i.invariant c.loop-i-test.false
