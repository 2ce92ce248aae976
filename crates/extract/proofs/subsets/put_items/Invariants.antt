-- The loop's invariant: the items so far are put together, and the others are still two lists.
use Rattle.extract.proofs.ItemLaws.{Putting}
use Rattle.extract.proofs.subsets.put_items.Given as goal

abbrev pub invariant-loop-k : goal.invariant-loop-k
invariant-loop-k l = Putting l.room l.widths l.weights l.k
