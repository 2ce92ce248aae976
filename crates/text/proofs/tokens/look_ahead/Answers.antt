use Prim.Native.Nat.{ℕ, ◌+◌, ◌-◌, ◌<◌, ◌≤◌}
use mathlib.Core.Path.{◌≡◌, refl, ◌∙◌}
use mathlib.Core.Bool.{Bool, true, false}
use mathlib.Core.List.{List, [], ◌∷◌, ◌++◌}
use native.Mathlib.Omega.{arith}
use lib.ListN.{length, get_or}
use Rattle.definition.specs.declared.ByteKind.{ByteKind}
use Rattle.definition.specs.declared.ByteKind.TheVariants.{Newline, Blank, Cut, Star, Period, Other}
use Rattle.definition.specs.declared.Mode.TheVariants.{Fresh, Between, Dropped, Within}
use Rattle.definition.specs.declared.LiteralState.{LiteralState}
use Rattle.definition.specs.declared.LiteralState.TheVariants.{Before}
use Rattle.definition.specs.declared.Token.{Token}
use Rattle.definition.specs.Unquoted.{closed}
use Rattle.definition.specs.Words.{next as mode_after, completed, completed_end, after_byte, said_next}
use Rattle.definition.proofs.WordLaws.{kind_at, tokens-next, tokens-end, closed-seen, closed_on}
use Rattle.text.specs.Tokens.{between, tokens_from, NextLine, AheadWord, AheadStop, AheadEnd}
use Rattle.text.proofs.TokenLaws.{space-kind}
use Rattle.text.proofs.tokens.look_ahead.Invariants.{Left}
use Rattle.text.proofs.tokens.look_ahead.Goals as goal

-- what a byte at p between words gives and leads to, where it does not matter whether the line has only blanks so far
module _ (t : List ℕ) (q : LiteralState) (p : ℕ) where
  abbrev after : Bool → ByteKind → List Token
  after f k = completed (between f) p k ++ tokens_from t (said_next t q (between f) p (get_or t p 0) k) (mode_after (between f) p k) (p + 1)

  newline-next : (f : Bool) → after f Newline ≡ tokens_from t q Fresh (p + 1)
  unfolding said_next
  newline-next true = refl
  newline-next false = refl

  blank-next : (f : Bool) → after f Blank ≡ tokens_from t q (between f) (p + 1)
  unfolding said_next
  blank-next true = refl
  blank-next false = refl

  cut-next : (f : Bool) → after f Cut ≡ tokens_from t q Dropped (p + 1)
  unfolding said_next
  cut-next true = refl
  cut-next false = refl

  note-next : after true Star ≡ tokens_from t q Dropped (p + 1)
  unfolding said_next
  note-next = refl

  star-next : after false Star ≡ tokens_from t (after_byte q p (get_or t p 0)) (Within p) (p + 1)
  unfolding said_next
  star-next = refl

  period-next : (f : Bool) → after f Period ≡ Token.Stop p ∷ tokens_from t (Before 0) Between (p + 1)
  unfolding said_next
  period-next true = refl
  period-next false = refl

  other-next : (f : Bool) → after f Other ≡ tokens_from t (after_byte q p (get_or t p 0)) (Within p) (p + 1)
  unfolding said_next
  other-next true = refl
  other-next false = refl

end-next : (f : Bool) (p : ℕ) → completed_end (between f) p ≡ []
end-next true p = refl
end-next false p = refl

module _ {t : List ℕ} {at : ℕ} {fresh : Bool} {i : ℕ} {f : Bool} (inv : Left t at fresh i f) where
  done : length t ≤ i → AheadEnd t at fresh i
  done h = record { last = omega (arith, inv.within); rest = λ q c. inv.rest q c ∙ tokens-end t q (between f) i h ∙ rw (end-next f i) (closed_on q Newline [] c) }

  module _ (h : i < length t) {k : ByteKind} (e : k ≡ kind_at t i) where
    -- the tokens from `at` on are those that a byte of this kind at i gives, and those after it
    stepped : {d : ByteKind} → k ≡ d → (q : LiteralState) → closed q ≡ true → tokens_from t q (between fresh) at ≡ after t q i f d
    stepped g q c =
        let k' = kind_at t i in
        inv.rest q c
        ∙ tokens-next t q (between f) i h
        ∙ rw (closed-seen q k' c, closed_on q k' (tokens_from t (said_next t q (between f) i (get_or t i 0) k') (mode_after (between f) i k') (i + 1)) c, ← e, g)

    newline : k ≡ Newline → Left t at fresh (i + 1) true
    newline d = record { up = omega arith; within = omega arith; rest = λ q c. stepped d q c ∙ newline-next t q i f }

    blank : k ≡ Blank → Left t at fresh (i + 1) f
    blank d = record { up = omega arith; within = omega arith; rest = λ q c. stepped d q c ∙ blank-next t q i f }

    cut : {r : ℕ} → k ≡ Cut → NextLine t (i + 1) r → Left t at fresh r true
    cut d l = record { up = omega arith; within = l.within; rest = λ q c. stepped d q c ∙ cut-next t q i f ∙ l.rest q c }

    note : {r : ℕ} → k ≡ Star → f ≡ true → NextLine t (i + 1) r → Left t at fresh r f
    note d y l = record { up = omega arith; within = l.within; rest = λ q c. stepped d q c ∙ rw y (note-next t q i ∙ l.rest q c) }

    star : k ≡ Star → f ≡ false → AheadWord t at fresh i
    star d y = record { up = inv.up; within = h; rest = λ q c. stepped d q c ∙ rw y (star-next t q i) }

    other : k ≡ Other → AheadWord t at fresh i
    other d = record { up = inv.up; within = h; rest = λ q c. stepped d q c ∙ other-next t q i f }

    period : k ≡ Period → AheadStop t at fresh (i + 1)
    period d =
        let at : i + 1 - 1 ≡ i = omega arith in
        record { up = omega arith; within = omega arith; rest = λ q c. rw at (stepped d q c ∙ period-next t q i f) }

pub loop-i-preserved-then-text-i-eq32 : goal.loop-i-preserved-then-text-i-eq32
loop-i-preserved-then-text-i-eq32 c = blank c.loop-i.invariant c.loop-i-test.true refl (space-kind c.args.text.now c.loop-i.i c.if-text-i-eq32.true)

pub loop-i-preserved-in-Newline-1 : goal.loop-i-preserved-in-Newline-1
loop-i-preserved-in-Newline-1 c = search (newline c.loop-i.invariant)

pub loop-i-preserved-in-Blank-1 : goal.loop-i-preserved-in-Blank-1
loop-i-preserved-in-Blank-1 c = search blank

pub loop-i-preserved-in-Cut-1 : goal.loop-i-preserved-in-Cut-1
loop-i-preserved-in-Cut-1 c = search (cut c.loop-i.invariant)

pub loop-i-preserved : goal.loop-i-preserved
loop-i-preserved c = search note

pub returns-in-Star-2 : goal.returns-in-Star-2
returns-in-Star-2 c = search star

pub returns-in-Period : goal.returns-in-Period
returns-in-Period c = search period

pub returns-in-Star-2-2 : goal.returns-in-Star-2-2
returns-in-Star-2-2 c = search other

pub returns : goal.returns
returns c = search done
