-- The loop's invariant: what is summed up, and what is left of the items, make the weight.
use lib.ListN.{drop}
use Rattle.extract.proofs.SearchLaws.{Summing}
use Rattle.extract.proofs.subsets.Items.alone_weight.Given as goal

abbrev pub invariant-loop-item : goal.invariant-loop-item
invariant-loop-item l = Summing l.self.items.now l.limit l.sum (drop l.item-index l.self.items.now)
