-- The details' `put` meets its contract: those of the table's entries are the record's.
use Rattle.reports.proofs.FlatLaws.{table_shallow, table_details}
use native.Mathlib.Omega.{arith}
use Rattle.output.proofs.PutLaws.{◌and◌}
use Rattle.reports.proofs.details.DetailsWritten.put.Goals as goal

pub put_details-requires : goal.put_details-requires
put_details-requires c = (table_shallow c.args.self.tabled, omega (arith, c.put_head.ensures.at))

pub returns : goal.returns
returns c =
    rw (← table_details c.args.self.tabled c.args.self.root) (c.put_head.ensures.put and c.put_details.ensures)
