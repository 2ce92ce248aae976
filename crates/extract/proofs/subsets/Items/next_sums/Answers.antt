-- `Items::next_sums` meets its contract.
use native.Mathlib.Omega.{arith}
use Rattle.std.proofs.lemmas.List.{drop_more, drop_all}
use Rattle.extract.proofs.SumLaws.{width_fits, weight-fits, width-falls, weight-falls}
use Rattle.extract.proofs.SumLaws.{leaving-goes-on, leaving-ends, none_left}
use Rattle.extract.proofs.subsets.Items.next_sums.Goals as goal

pub overflow_add-result : goal.overflow_add-result
overflow_add-result c =
    omega (arith, width_fits c.args.self.weighable (leaving-ends c.loop-item.invariant (drop_more _ _ (record { width = 0; weight = 0 }) c.loop-item-test.true) c.if-rest-eq0.true))

pub overflow_add-result-then-rest-eq0 : goal.overflow_add-result-then-rest-eq0
overflow_add-result-then-rest-eq0 c =
    omega (arith, weight-fits c.args.self.weighable (leaving-ends c.loop-item.invariant (drop_more _ _ (record { width = 0; weight = 0 }) c.loop-item-test.true) c.if-rest-eq0.true))

pub returns-then-rest-eq0 : goal.returns-then-rest-eq0
returns-then-rest-eq0 c = leaving-ends c.loop-item.invariant (drop_more _ _ (record { width = 0; weight = 0 }) c.loop-item-test.true) c.if-rest-eq0.true

pub overflow_sub-sums : goal.overflow_sub-sums
overflow_sub-sums c = width-falls c.loop-item.invariant (drop_more _ _ (record { width = 0; weight = 0 }) c.loop-item-test.true) c.if-rest-eq0.false

pub overflow_sub-sums-in-loop-item : goal.overflow_sub-sums-in-loop-item
overflow_sub-sums-in-loop-item c = weight-falls c.loop-item.invariant (drop_more _ _ (record { width = 0; weight = 0 }) c.loop-item-test.true) c.if-rest-eq0.false

pub loop-item-preserved : goal.loop-item-preserved
loop-item-preserved c = leaving-goes-on c.loop-item.invariant (drop_more _ _ (record { width = 0; weight = 0 }) c.loop-item-test.true) c.if-rest-eq0.false

pub returns : goal.returns
returns c = absurd (none_left c.loop-item.invariant (drop_all _ _ c.loop-item-test.false))
