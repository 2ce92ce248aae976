-- `unions::link_unions` meets its contract: the rows from k on are linked.
use Rattle.layout.proofs.LinkLaws.{Linking}
use Rattle.layout.proofs.unions.link_unions.Given as goal

abbrev pub invariant-loop-k : goal.invariant-loop-k
invariant-loop-k l = Linking l.initial.rows l.from l.to l.k l.rows

abbrev pub decreases-loop-k : goal.decreases-loop-k
decreases-loop-k l = l.k
