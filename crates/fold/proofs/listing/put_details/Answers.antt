-- `listing::put_details` meets its contract.
use Rattle.output.proofs.PutLaws.{◌and◌}
use Rattle.fold.proofs.listing.put_details.Goals as goal

pub returns-in-Edited : goal.returns-in-Edited
returns-in-Edited c =
    rw c.in-Edited.is (rw (← c.code-in-Edited.ensures) (c.bytes-in-Edited.ensures and c.span.ensures))
