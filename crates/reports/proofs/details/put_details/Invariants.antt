-- `details::put_details` meets its contract: each entry's details behind those before it.
use Rattle.reports.proofs.LoopLaws.{Detailing}
use Rattle.reports.proofs.details.put_details.Given as goal

abbrev pub invariant-loop-item : goal.invariant-loop-item
invariant-loop-item l = Detailing l.table.rows.all.now l.table.items.now l.initial.sink l.starts l.item-index l.sink
