-- `tokens::marked_end` meets its contract. The loop's invariant: the word goes on at i, with q said.
use Prim.Native.Nat.{ℕ, ◌≤◌}
use mathlib.Core.Path.{◌≡◌}
use mathlib.Core.List.{List}
use lib.ListN.{length}
use Rattle.definition.specs.declared.Mode.TheVariants.{Within}
use Rattle.definition.specs.declared.LiteralState.{LiteralState}
use Rattle.text.specs.Tokens.{AfterValue, tokens_from}
use Rattle.text.proofs.tokens.marked_end.Given as goal

-- the word goes on at i
pub record Left (t : List ℕ) (at : ℕ) (n : LiteralState) (i : ℕ) (q : LiteralState) : Type 0 where
  pub up : at ≤ i
  pub within : i ≤ length t
  pub after : AfterValue q
  pub rest : (a : ℕ) → tokens_from t n (Within a) at ≡ tokens_from t q (Within a) i

abbrev pub invariant-loop-i : goal.invariant-loop-i
invariant-loop-i l = Left l.text l.at l.fn.literals l.i l.literals
