use Rattle.theorems.proofs.Occurrences.{owner-occurs}
use Rattle.theorems.proofs.what_is_owned_occurs.Goals as goal

pub returns : goal.returns
returns c text owner f es d = owner-occurs d
