-- A case more, and the end of the list.
use Rattle.replay.specs.Bare.{bare_ahead}
use Rattle.replay.proofs.TallyLaws.{going-on, going-ends, onward-add}
use Rattle.test_lists.proofs.lists.List.count.Goals as goal

pub loop-case-preserved : goal.loop-case-preserved
loop-case-preserved c =
    let s = c.in-Some.ensures.steps in
    let before = c.loop-case.case-iterator.rest in
    let after = c.next.new.self.rest in (
      going-on _ _ _ (bare_ahead before.list.now before.at) _ (bare_ahead after.list.now after.at)
          c.add.ensures.cases s.0 s.2 s.4 c.loop-case.invariant.0,
      onward-add _ _ _ _ c.loop-case.invariant.1 c.add.ensures.cases c.add.ensures.agree c.add.ensures.first,
    )

pub returns : goal.returns
returns c =
    let rest = c.loop-case.case-iterator.rest in
    record {
      all =
          going-ends _ _ (bare_ahead rest.list.now rest.at) c.loop-case.counted.few c.in-None.ensures.steps.0
          c.loop-case.invariant.0;
      onward = c.loop-case.invariant.1;
    }
