use mathlib.Core.Path.{ap}
use Rattle.rows.specs.declared.Row.{Row}
use Rattle.reports.proofs.OutwardLaws.{group-put}
use Rattle.reports.proofs.reasons.LaidRow.put_group.Goals as goal

pub returns : goal.returns
returns c = group-put _ _ c.put_reason.ensures (ap (λ (r : Row). r.statement.name) c.row.ensures) c.put_own.ensures
