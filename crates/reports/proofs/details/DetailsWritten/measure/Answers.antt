-- The details' `measure` meets its contract: 17 bytes and 63 for each entry.
use Rattle.std.proofs.Common.{arith}
use Rattle.reports.proofs.FlatLaws.{table_shallow, table_needs}
use Rattle.reports.proofs.details.DetailsWritten.measure.Goals as goal

pub overflow_mul-result : goal.overflow_mul-result
overflow_mul-result c = let h = table_shallow c.args.self.tabled in omega (arith, h.few)

pub returns : goal.returns
returns c = table_needs c.args.self.tabled c.args.self.root
