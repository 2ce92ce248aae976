use Rattle.theorems.proofs.StandingLaws.{first_owned}
use Rattle.theorems.proofs.owners_are_found_at_the_first_byte.Goals as goal

pub returns : goal.returns
returns c text owner f es d = first_owned d
