-- `numbers::hand_on` meets its contract: the trait says how many numbers they are.
use native.Mathlib.Omega.{arith}
use Rattle.copybook_c.proofs.numbers.hand_on.Goals as goal

pub numbers-requires : goal.numbers-requires
numbers-requires g c = omega (arith, g.met.T.AsNumbers.few)

pub shared_whole_as_slice-put : goal.shared_whole_as_slice-put
shared_whole_as_slice-put g c = omega (arith, g.met.T.AsNumbers.few)

pub refused-requires : goal.refused-requires
refused-requires g c = omega (arith, g.met.T.AsNumbers.few)

pub shared_whole_as_slice-put-in-Err : goal.shared_whole_as_slice-put-in-Err
shared_whole_as_slice-put-in-Err g c = omega (arith, g.met.T.AsNumbers.few)
