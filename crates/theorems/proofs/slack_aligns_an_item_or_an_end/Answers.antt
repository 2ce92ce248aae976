use Rattle.theorems.proofs.Occurrences.{slack-stands}
use Rattle.theorems.proofs.slack_aligns_an_item_or_an_end.Goals as goal

pub returns : goal.returns
returns c text f es n first width told listed = slack-stands n first width text f f es 0 0 0 (λ u below o. o) told listed
