-- `words::open_check` meets its contract. The loop's invariant: what is open first is so from where the reader stands.
use Prim.Native.Nat.{ℕ, ◌-◌, ◌≤◌}
use mathlib.Core.Path.{◌≡◌}
use mathlib.Core.List.{List}
use lib.ListN.{length}
use Rattle.definition.specs.Words.{tokens_of, first_open}
use Rattle.text.specs.declared.tokens.Cursor.{Cursor}
use Rattle.text.specs.Tokens.{tokens_at}
use Rattle.text.proofs.words.open_check.Given as goal

pub record Left (t : List ℕ) (s : Cursor) : Type 0 where
  pub within : s.at ≤ length t
  pub rest : first_open (tokens_of t) ≡ first_open (tokens_at t s)

abbrev pub invariant-loop : goal.invariant-loop
invariant-loop l = Left l.text l.cursor

abbrev pub decreases-loop : goal.decreases-loop
decreases-loop l = length l.text - l.cursor.at
