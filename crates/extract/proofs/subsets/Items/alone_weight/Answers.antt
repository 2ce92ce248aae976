-- `Items::alone_weight` meets its contract.
use native.Mathlib.Omega.{arith}
use Rattle.std.proofs.lemmas.List.{drop_more, drop_all}
use Rattle.extract.proofs.SearchLaws.{sums-not, sums-too, summing-ends, sum_fits}
use Rattle.extract.proofs.subsets.Items.alone_weight.Goals.{then-item-limit, else-item-limit}
use Rattle.extract.proofs.subsets.Items.alone_weight.Goals as goal

pub overflow_add-sum : goal.overflow_add-sum
overflow_add-sum c =
    omega (arith, sum_fits (sums-too c.loop-item.invariant (drop_more _ _ (record { width = 0; weight = 0 }) c.loop-item-test.true) c.if-item-limit.true) c.args.self.weighable)

pub loop-item-preserved : goal.loop-item-preserved
loop-item-preserved c =
    let next = drop_more _ _ (record { width = 0; weight = 0 }) c.loop-item-test.true in
    elim c.if-item-limit.branch [
      | then-item-limit w ↦ rw w.sum-is (sums-too c.loop-item.invariant next w.if-item-limit.true)
      | else-item-limit w ↦ rw w.sum-is (sums-not c.loop-item.invariant next w.if-item-limit.false)
    ]

pub returns : goal.returns
returns c = summing-ends c.loop-item.invariant (drop_all _ _ c.loop-item-test.false)
