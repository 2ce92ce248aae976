-- `cards::view_into` meets its contract. The loop's invariant: the view is what is written, and that of the bytes left;
-- no indicator so far is refused.
use Prim.Native.Nat.{ℕ, ◌+◌, ◌≤◌}
use mathlib.Core.Path.{◌≡◌}
use mathlib.Core.Bool.{Bool}
use mathlib.Core.List.{List, ◌++◌}
use lib.ListN.{length, take, drop}
use Rattle.definition.specs.declared.TheConstants.{MOST_BYTES}
use Rattle.definition.specs.Cards.{view_from, view, first_other}
use Rattle.text.proofs.cards.view_into.Given as goal

pub record Left (t out₀ out : List ℕ) (i n : ℕ) (code : Bool) : Type 0 where
  pub inside : i ≤ length t
  pub size : length out ≡ length out₀
  pub room : length t ≤ length out
  pub small : length t ≤ MOST_BYTES
  pub column : n ≤ i + 1
  pub seen : view t ≡ take i out ++ view_from n code (drop i t)
  pub other : first_other 0 1 t ≡ first_other i n (drop i t)

abbrev pub invariant-loop-i : goal.invariant-loop-i
invariant-loop-i l = Left l.cards l.initial.view l.view l.i l.n l.code
