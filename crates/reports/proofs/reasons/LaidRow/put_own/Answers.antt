-- `LaidRow::put_own` meets its contract: what placed it, then its slack.
use mathlib.Core.Path.{ap}
use native.Mathlib.Omega.{arith}
use Rattle.rows.specs.declared.Row.{Row}
use Rattle.reports.proofs.OutwardLaws.{own-put, slack-put}
use Rattle.reports.proofs.reasons.LaidRow.put_own.Goals as goal

pub returns-then-slacks : goal.returns-then-slacks
returns-then-slacks c =
    slack-put _ _ c.put_reason.ensures c.placing.ensures (ap (λ (r : Row). r.place.slack) c.row.ensures) (λ z. omega arith)
    c.put_reason-then-slacks.ensures

pub returns-else-slacks : goal.returns-else-slacks
returns-else-slacks c = own-put _ _ c.put_reason.ensures c.placing.ensures (ap (λ (r : Row). r.place.slack) c.row.ensures) (omega arith)
