-- `Table::put` meets its contract.
use Rattle.fold.proofs.LoopLaws.{putting_ends}
use Rattle.fold.proofs.table.Table.put.Goals as goal

pub returns : goal.returns
returns c = putting_ends c.loop-item.invariant c.loop-item-test.false
