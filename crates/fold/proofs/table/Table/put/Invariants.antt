-- `Table::put` meets its contract: each entry behind the one before it.
use Rattle.fold.proofs.LoopLaws.{Putting}
use Rattle.fold.proofs.table.Table.put.Given as goal

abbrev pub invariant-loop-item : goal.invariant-loop-item
invariant-loop-item l = Putting l.self.rows.all.now l.self.items.now l.initial.sink l.item-index l.sink
