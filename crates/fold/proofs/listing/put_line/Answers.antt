-- `listing::put_line` meets its contract.
use Rattle.output.proofs.PutLaws.{◌and◌}
use Rattle.fold.proofs.PutLaws.{line-parts}
use Rattle.fold.proofs.listing.put_line.Goals as goal

pub returns : goal.returns
returns c =
    rw (line-parts c.args.line c.args.n)
    (c.put_place.ensures and c.put_occurs.ensures and c.span.ensures and c.span-2.ensures and c.put_details.ensures)
