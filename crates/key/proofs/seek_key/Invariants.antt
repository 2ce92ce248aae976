-- `key::seek_key` meets its contract: what was found so far, and what is found in the rest.
use Rattle.std.proofs.Common.{◌≡◌, false, drop}
use Rattle.key.specs.declared.Sought.{Sought}
use Rattle.key.specs.Sought.{sought_in}
use Rattle.fold.specs.Entered.{shown_all}
use Rattle.key.proofs.seek_key.Given as goal

abbrev pub invariant-loop-item : goal.invariant-loop-item
invariant-loop-item l =
    sought_in l.text l.name false Sought.Nothing (shown_all l.table.rows.all.now l.table.items.now)
    ≡ sought_in l.text l.name l.behind l.found (shown_all l.table.rows.all.now (drop l.item-index l.table.items.now))
