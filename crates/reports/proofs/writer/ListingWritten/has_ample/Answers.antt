-- A listing's `has_ample` meets its contract: a listing has at most 98 bytes for each row, and its head.
use Rattle.std.proofs.Common.{arith}
use borrow.Author.Tests.{leb-true}
use Rattle.reports.proofs.ListedLaws.{listing-most}
use Rattle.reports.proofs.writer.ListingWritten.has_ample.Goals as goal

pub returns : goal.returns
returns c =
    let a = c.args.self in
    λ h. omega (arith, leb-true _ c.args.places h, listing-most a.laid.text.now a.laid.table.rows.all.now a.laid.from a.laid.table.rows.count)
