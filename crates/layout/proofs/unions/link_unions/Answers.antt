use Rattle.layout.proofs.LinkLaws.{linking-starts, linking-row, linking-on, linking-ends}
use Rattle.layout.proofs.unions.link_unions.Goals as goal

pub loop-k-init : goal.loop-k-init
loop-k-init c = let a = c.args in linking-starts a.rows.now a.from a.to c.requires

pub link_row-requires : goal.link_row-requires
link_row-requires c = linking-row c.loop-k.invariant c.loop-k-test.true

pub loop-k-preserved : goal.loop-k-preserved
loop-k-preserved c = linking-on c.loop-k.invariant c.loop-k-test.true c.link_row.ensures

pub shape_of-rows : goal.shape_of-rows
shape_of-rows c = c.loop-k.invariant.kept.long

pub returns : goal.returns
returns c = linking-ends c.loop-k.invariant c.loop-k-test.false
