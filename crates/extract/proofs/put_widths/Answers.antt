use mathlib.Core.Path.{ap, ◌∙◌}
use mathlib.Core.Logic.{inl}
use native.Mathlib.Omega.{arith}
use Rattle.rows.specs.declared.Rows.{Rows}
use Rattle.extract.proofs.GatherLaws.{gather-counted, gather-row, gather-inside, gathering-goes-on, gathering-ends}
use Rattle.extract.proofs.put_widths.Goals as goal

pub new-requires : goal.new-requires
new-requires c = gather-counted c.requires

pub row_total-requires : goal.row_total-requires
row_total-requires c =
    let inv = c.loop-i.invariant in
    let s = c.in-Some.ensures.steps.0 in
    rw s.1 (gather-row inv.3 (rw inv.2 at s.0))

pub bounds-widths-i : goal.bounds-widths-i
bounds-widths-i c =
    let inv = c.loop-i.invariant in
    let s = c.in-Some.ensures.steps in
    rw s.1 (gather-inside inv.3 (rw inv.2 at s.0.0) (rw inv.2 at s.0.2))

pub loop-i-preserved : goal.loop-i-preserved
loop-i-preserved c =
    let inv = c.loop-i.invariant in
    let s = c.in-Some.ensures.steps in
    let on = gathering-goes-on inv.3 (rw inv.2 at s.0.0) (rw inv.2 at s.0.2) (rw s.0.1 at c.row_total.ensures) in
    let same = s.0.3 ∙ inv.2 in (
      (tt, tt, inl (omega (arith, on.few, s.2, s.0.4, ap (λ (r : Rows). r.count) same))),
      tt,
      same,
      rw (s.1, s.2, s.0.4) on,
    )

pub returns : goal.returns
returns c =
    let inv = c.loop-i.invariant in
    gathering-ends inv.3 (rw inv.2 at c.in-None.ensures.steps.0.0)
