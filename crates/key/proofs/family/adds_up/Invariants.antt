use Rattle.std.proofs.Common.{◌≡◌, eqb, drop}
use Rattle.definition.specs.Basic.{sum}
use Rattle.key.proofs.family.adds_up.Given as goal

abbrev pub invariant-loop-len : goal.invariant-loop-len
invariant-loop-len l = eqb (sum l.lengths) l.n ≡ eqb (sum (drop l.len-index l.lengths)) l.left
