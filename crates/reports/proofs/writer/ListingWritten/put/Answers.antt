-- A listing's `put` meets its contract: the head, and then the entries.
use Rattle.std.proofs.Common.{arith}
use Rattle.fold.proofs.ListedLaws.{table_fits, table-whole}
use Rattle.reports.proofs.writer.ListingWritten.put.Goals as goal

pub put-requires : goal.put-requires
put-requires c =
    let t = c.args.self.tabled in
    table_fits t.table c.put_head.new.sink.at t.few (omega (arith, c.put_head.ensures.put.next, c.requires))

pub returns : goal.returns
returns c =
    let t = c.args.self.tabled in
    table-whole t.table t.length c.varies-variable.ensures t.tops c.put_head.ensures c.put.ensures
