use Rattle.definition.proofs.Alignment.{fewest-slack, fewest-only}
use Rattle.theorems.proofs.alignment_takes_the_fewest_bytes.Goals as goal

pub returns : goal.returns
returns c = record { least = fewest-slack; only = λ width place n pos. fewest-only width place pos n }
