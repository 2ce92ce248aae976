-- `Table::length` meets its contract.
use Rattle.std.proofs.Common.{rules}
use Rattle.fold.proofs.LoopLaws.{length_fold}
use Rattle.fold.proofs.table.Table.length.Goals as goal

pub returns : goal.returns
returns c = rw (← length_fold c.args.self.rows.all.now c.args.self.items.now) (search rules)
