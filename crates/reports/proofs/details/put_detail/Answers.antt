-- `details::put_detail` meets its contract: its parts, one after the other.
use Rattle.definition.specs.Details.{detail}
use Rattle.output.proofs.PutLaws.{◌and◌}
use Rattle.reports.proofs.FlatLaws.{detail-parts}
use Rattle.reports.proofs.details.put_detail.Goals as goal

pub returns : goal.returns
returns c =
    let a = c.args in
    rw (detail-parts (detail a.e a.depth a.below a.first))
    (c.put_standing.ensures and c.long.ensures and c.number.ensures and c.put_clauses.ensures and c.put_held.ensures)
