-- `Copybooks::all_agree` meets its contract: copybook by copybook, each before the rest.
use Rattle.std.proofs.Common.{◌∙◌, sym}
use Rattle.definition.proofs.Answers.{handed_on}
use Rattle.key.proofs.SetLaws.{agree_refused, agree_on}
use Rattle.key.proofs.family.Copybooks.all_agree.Goals as goal

pub returns-in_err-found : goal.returns-in_err-found
returns-in_err-found c =
    let l = c.loop-text in
    rw (handed_on _ c.from_residual.ensures.1)
    (agree_refused _ _ _ l.agreed c.in-Some.ensures.steps c.in_err-found.ensures ∙ sym l.invariant)

pub loop-text-preserved-then-agreed : goal.loop-text-preserved-then-agreed
loop-text-preserved-then-agreed c =
    let l = c.loop-text in
    l.invariant
    ∙ agree_on _ _ _ l.agreed c.in-Some.ensures.steps c.in_ok-found.ensures
    (c.agrees-agreed.ensures ∙ rw c.if-agreed.true)

pub loop-text-preserved : goal.loop-text-preserved
loop-text-preserved c =
    let l = c.loop-text in
    l.invariant
    ∙ agree_on _ _ _ l.agreed c.in-Some.ensures.steps c.in_ok-found.ensures (rw c.if-agreed.false)
