-- `owner::owner_of` meets its contract: 40, 41, and what the walk finds; every byte below the record's length has an
-- owner.
use native.Mathlib.Omega.{arith}
use Rattle.owner.proofs.OwnerLaws.{listed-walkable, answers-40, answers-41, found, someone}
use Rattle.owner.proofs.owner_of.Goals as goal

pub returns-then-is_overlaid : goal.returns-then-is_overlaid
returns-then-is_overlaid c =
    answers-40 c.requires c.is_overlaid.ensures _ c.if-is_overlaid.true

pub returns-then-laid-position : goal.returns-then-laid-position
returns-then-laid-position c =
    answers-41 c.requires c.is_overlaid.ensures _ c.if-is_overlaid.false (omega arith)

pub walk_rows-requires : goal.walk_rows-requires
walk_rows-requires c = listed-walkable c.requires

pub unwrap-requires : goal.unwrap-requires
unwrap-requires c = someone c.requires c.is_overlaid.ensures _ c.if-is_overlaid.false (omega arith) c.walk_rows.ensures

pub returns : goal.returns
returns c =
    found c.requires c.is_overlaid.ensures _ c.if-is_overlaid.false (omega arith) c.walk_rows.ensures c.unwrap.ensures
