-- `details::put_own` meets its contract.
use Rattle.reports.proofs.details.put_own.Goals as goal

pub returns : goal.returns
returns c = rw (← c.entry.ensures) c.put_detail.ensures
