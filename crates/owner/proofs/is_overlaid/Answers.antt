-- `owner::is_overlaid` meets its contract: what one of the rows has is what their forest has.
use mathlib.Core.Path.{◌∙◌}
use Rattle.owner.proofs.OwnerLaws.{rows-overlaid}
use Rattle.owner.proofs.is_overlaid.Goals as goal

pub returns : goal.returns
returns c = c.some_overlay.ensures ∙ rows-overlaid c.args.rows.all.now c.args.from c.args.rows.count
