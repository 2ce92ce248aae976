use Rattle.theorems.proofs.WordsLaws.{one_by_one}
use Rattle.theorems.proofs.statements_come_one_by_one.Goals as goal

pub returns : goal.returns
returns c ts = one_by_one ts
