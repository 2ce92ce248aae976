-- `Table::ends_fit` meets its contract: what is asked of all entries is asked of the rest.
use Rattle.std.proofs.Common.{◌≡◌}
use Rattle.definition.specs.Basic.{Answer}
use Rattle.fold.specs.Entered.{flat_fits, shown_all}
use Rattle.fold.proofs.LoopLaws.{rest}
use Rattle.fold.proofs.table.Table.ends_fit.Given as goal

abbrev pub invariant-loop-item : goal.invariant-loop-item
invariant-loop-item l =
    ◌≡◌ {A = Answer (Unit {0})} (flat_fits (shown_all l.self.rows.all.now l.self.items.now)) (flat_fits (rest l.self.rows.all.now l.self.items.now l.item-index))
