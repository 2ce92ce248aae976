-- The loop's invariant: what is left to look at, after the best so far, gives the answer.
use Rattle.extract.proofs.SearchLaws.{Looking}
use Rattle.extract.proofs.subsets.Items.best_of.Given as goal

abbrev pub invariant-loop-number : goal.invariant-loop-number
invariant-loop-number l =
    Looking l.self.items.now l.limit l.count l.best.subset l.best.weight l.sums.width l.sums.weight l.number
