-- `tokens::look_ahead` meets its contract. The loop's invariant: the tokens are those from i on.
use Prim.Native.Nat.{ℕ, ◌-◌, ◌≤◌}
use mathlib.Core.Path.{◌≡◌}
use mathlib.Core.Bool.{Bool, true}
use mathlib.Core.List.{List}
use lib.ListN.{length}
use Rattle.definition.specs.declared.LiteralState.{LiteralState}
use Rattle.definition.specs.Unquoted.{closed}
use Rattle.text.specs.Tokens.{between, tokens_from}
use Rattle.text.proofs.tokens.look_ahead.Given as goal

-- the tokens are those from i on
pub record Left (t : List ℕ) (at : ℕ) (fresh : Bool) (i : ℕ) (f : Bool) : Type 0 where
  pub up : at ≤ i
  pub within : i ≤ length t
  pub rest : (q : LiteralState) → closed q ≡ true → tokens_from t q (between fresh) at ≡ tokens_from t q (between f) i

abbrev pub invariant-loop-i : goal.invariant-loop-i
invariant-loop-i l = Left l.text l.at l.fresh l.i l.f

abbrev pub decreases-loop-i : goal.decreases-loop-i
decreases-loop-i l = length l.text - l.i
