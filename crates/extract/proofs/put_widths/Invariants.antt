-- What is stored, and what is left of the rows, make the widths.
use Rattle.std.proofs.Common.{◌≡◌}
use Rattle.std.specs.Iterator.Adapters.{enumerate_source, enumerate_count}
use Rattle.extract.proofs.GatherLaws.{Gathering}
use Rattle.extract.proofs.put_widths.Given as goal

abbrev pub invariant-loop-i : goal.invariant-loop-i
invariant-loop-i l =
    (goal.iterator-loop-i).can_next l.i-iterator
    × (goal.iterator-loop-i).is_finite l.i-iterator
    × ((enumerate_source l.i-iterator).rows ≡ l.laid.table.rows)
    × Gathering l.laid.table.rows.all.now l.laid.from l.laid.table.rows.count l.widths
    (enumerate_source l.i-iterator).from (enumerate_count l.i-iterator)
