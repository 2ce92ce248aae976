-- `statement::skip_statement` meets its contract. The loop's invariant: the statement goes on at `cursor`.
use Prim.Native.Nat.{◌-◌}
use lib.ListN.{length}
use Rattle.text.proofs.EndLaws.{Reached}
use Rattle.statement.proofs.skip_statement.Given as goal

abbrev pub invariant-loop : goal.invariant-loop
invariant-loop l = Reached l.text l.fn.cursor l.cursor

abbrev pub decreases-loop : goal.decreases-loop
decreases-loop l = length l.text - l.cursor.at
