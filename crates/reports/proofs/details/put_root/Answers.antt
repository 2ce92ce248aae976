-- `details::put_root` meets its contract: its parts, one after the other.
use Rattle.output.proofs.PutLaws.{◌and◌}
use Rattle.reports.proofs.details.put_root.Goals as goal

pub returns-in-Some : goal.returns-in-Some
returns-in-Some c = rw (c.in-Some.is, ← c.from.ensures) (c.number.ensures and c.byte.ensures and c.span.ensures)
