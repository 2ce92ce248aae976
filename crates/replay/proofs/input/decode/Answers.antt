-- How many bytes there are in all, and the two ways in which the writing ends.
use Rattle.std.proofs.Common.{ℕ, List, [], ◌∷◌, ◌≡◌, ◌≤◌, ◌+◌, length, take, Some, None}
use Rattle.std.proofs.Common.{arith, ap, length-append}
use Rattle.std.proofs.lemmas.Grind.{common_steps}
use Rattle.std.proofs.lemmas.Bool.Decides.{nat_tests}
use Rattle.std.proofs.Math.ListN.{length-take}
use Rattle.replay.specs.Inputs.{decoded, input}
use Rattle.replay.specs.Answers.{taken}
use Rattle.replay.proofs.input.decode.Invariants.{Written}
use Rattle.replay.proofs.input.decode.Goals as goal

module _ (word rest : List ℕ) (before n : ℕ) (out old : List ℕ) (w : Written word rest before n out old) where
  in_all : n + length (decoded rest) ≡ before + length (input word)
  in_all =
      let s = w.same in let f = w.from in let i = w.within in
      omega (arith, simp (length-append, length-take) at (ap length w.front))

  full : (b : ℕ) (bs : List ℕ) → length out ≤ n → decoded rest ≡ b ∷ bs → taken (Some word) before old ≡ None
  full b bs h e =
      let a = in_all in
      let l : length (decoded rest) ≡ length (b ∷ bs) = ap length e in
      let s = w.same in
      grind (arith, nat_tests)

  whole : decoded rest ≡ [] → taken (Some word) before old ≡ Some (take n out)
  whole e =
      let a = in_all in
      let l : length (decoded rest) ≡ 0 = ap length e in
      let f = w.front in let i = w.within in
      grind (arith, common_steps)

pub returns-then-out-n : goal.returns-then-out-n
returns-then-out-n c = full _ _ _ _ _ _ c.loop-byte.invariant _ _ c.if-out-n.true c.in-Some.ensures.steps

pub returns : goal.returns
returns c = (c.loop-byte.invariant.within, whole _ _ _ _ _ _ c.loop-byte.invariant c.in-None.ensures.steps.0)
