-- `tokens::look_inside` meets its contract. The loop's invariant: the tokens are those from i on, and no mark was
-- passed.
use Rattle.text.specs.Tokens.{Skips}
use Rattle.text.proofs.tokens.look_inside.Given as goal

abbrev pub invariant-loop-i : goal.invariant-loop-i
invariant-loop-i l = Skips l.text l.at l.i
