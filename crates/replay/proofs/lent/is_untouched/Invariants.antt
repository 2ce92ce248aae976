-- `is_untouched` meets its contract: what the bytes from a place on say is what those that are left say.
use Rattle.std.proofs.Common.{◌≡◌, drop}
use Rattle.replay.specs.Lent.{untouched}
use Rattle.replay.proofs.lent.is_untouched.Given as goal

abbrev pub invariant-loop-i : goal.invariant-loop-i
invariant-loop-i l = untouched l.from (drop l.from l.out) ≡ untouched l.i (drop l.i l.out)
