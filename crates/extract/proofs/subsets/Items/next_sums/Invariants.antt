-- The loop's invariant: while the number is odd its first item leaves, and then one joins.
use lib.ListN.{drop}
use Rattle.extract.proofs.SumLaws.{Leaving}
use Rattle.extract.proofs.subsets.Items.next_sums.Given as goal

abbrev pub invariant-loop-item : goal.invariant-loop-item
invariant-loop-item l = Leaving l.self.items.now l.number l.sums l.rest (drop l.item-index l.self.items.now)
