-- `RowItem::put` meets its contract.
use Rattle.fold.proofs.PutLaws.{entry-line, entry-countable}
use Rattle.fold.specs.Entered.{own_of}
use Rattle.fold.proofs.table.RowItem.put.Goals as goal

pub put_line-requires : goal.put_line-requires
put_line-requires c =
    rw c.line.ensures
    (entry-countable (own_of c.args.self.rows.all.now c.args.self.item.now) c.args.self.item.now.members c.args.sink.now.at c.requires)

pub returns : goal.returns
returns c =
    rw (entry-line (own_of c.args.self.rows.all.now c.args.self.item.now) c.args.self.item.now.members, ← c.line.ensures)
    c.put_line.ensures
