use mathlib.Core.Path.{ap, ◌∙◌}
use native.Mathlib.Omega.{arith}
use Rattle.rows.specs.declared.Row.{Row}
use Rattle.owner.proofs.OwnerLaws.{go-in, go_on}
use Rattle.owner.proofs.walk_rows.Goals as goal

pub loop-k-preserved : goal.loop-k-preserved
loop-k-preserved c =
    let e = c.row-row.ensures in
    go_on c.loop-k.invariant c.loop-k-test.true (ap (λ (r : Row). r.place.offset) e) (ap (λ (r : Row). r.place.width) e)
    (ap (λ (r : Row). r.place.slack_at_end) e) (ap (λ (r : Row). r.below) e) c.row_total.ensures c.if-before.false c.if-r-row_total.false

pub loop-k-preserved-then-r-row_total : goal.loop-k-preserved-then-r-row_total
loop-k-preserved-then-r-row_total c =
    let e = c.row-row.ensures in
    go-in c.loop-k.invariant c.loop-k-test.true (ap (λ (r : Row). r.place.offset) e) (ap (λ (r : Row). r.place.width) e)
    (c.from-at_end.ensures ∙ ap (λ (r : Row). r.place.slack_at_end) e) (ap (λ (r : Row). r.below) e) c.row_total.ensures
    c.if-before.false c.if-r-row_total.true (omega (arith, c.if-saturating_sub-q.false, c.saturating_sub.ensures))
    c.if-below-eq0.false
