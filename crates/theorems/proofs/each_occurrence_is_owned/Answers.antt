use Rattle.theorems.proofs.Occurrences.{occurrence-owned}
use Rattle.theorems.proofs.each_occurrence_is_owned.Goals as goal

pub returns : goal.returns
returns c text owner f es d = occurrence-owned d
