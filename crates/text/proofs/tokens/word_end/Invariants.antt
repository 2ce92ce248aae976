-- `tokens::word_end` meets its contract. The loop's invariant: the word goes on at i.
use Prim.Native.Nat.{ℕ, ◌≤◌}
use mathlib.Core.Path.{◌≡◌}
use mathlib.Core.List.{List}
use lib.ListN.{length}
use Rattle.definition.specs.declared.Mode.TheVariants.{Within}
use Rattle.definition.specs.declared.LiteralState.TheVariants.{Before}
use Rattle.text.specs.Tokens.{tokens_from}
use Rattle.text.proofs.tokens.word_end.Given as goal

-- the word goes on at i
pub record Left (t : List ℕ) (at i : ℕ) : Type 0 where
  pub up : at ≤ i
  pub within : i ≤ length t
  pub rest : (n s : ℕ) → tokens_from t (Before n) (Within s) at ≡ tokens_from t (Before n) (Within s) i

abbrev pub invariant-loop-i : goal.invariant-loop-i
invariant-loop-i l = Left l.text l.at l.i
