use Rattle.theorems.proofs.DistanceLaws.{stops-at-the-name}
use Rattle.theorems.proofs.a_target_is_the_nearest_of_its_name.Goals as goal

pub returns : goal.returns
returns c = record { stops = stops-at-the-name; distance = λ text w. (stops-at-the-name text w).match }
