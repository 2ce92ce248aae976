-- The rows of a list count the rows below them.
use Rattle.layout.specs.Places.{rows_forest}
use Rattle.layout.proofs.EntriesLaws.{linked-counted}
use Rattle.layout.proofs.ShownLaws.{marked-linked}
use Rattle.layout.proofs.unions.MarkedRows.siblings.Goals as goal

pub new-requires : goal.new-requires
new-requires c =
    let s = c.args.self in
    let w = s.rows.all.now in
    let f = rows_forest w s.from s.rows.count in
    linked-counted s.text.now w f s.from 0 (marked-linked s.text.now w f s.from 0 s.tree.marks)
