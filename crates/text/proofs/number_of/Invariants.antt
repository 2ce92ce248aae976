-- The loop's invariant: what all the digits spell is what the number so far and the digits that are left spell.
use Rattle.std.proofs.Common.{◌≡◌, ◌<◌, drop}
use Rattle.definition.specs.Basic.{digits, numeral}
use Rattle.text.proofs.number_of.Given as goal

abbrev pub invariant-loop-b : goal.invariant-loop-b
invariant-loop-b l = (l.n < 18446744073709551616) × (numeral l.digits ≡ digits l.n (drop l.b-index l.digits))
