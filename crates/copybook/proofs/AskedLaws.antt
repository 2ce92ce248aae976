-- How deep a laid record is.
-- Assumes nothing.
use Rattle.rows.specs.declared.Row.{Row}
use Prim.Native.Nat.{ℕ, ◌≤◌}
use mathlib.Core.List.{List}
use Rattle.definition.specs.Basic.{Answer}
use Rattle.definition.specs.Tree.{Forest}
use Rattle.definition.specs.Fold.{folded_all}
use Rattle.definition.specs.Details.{height}
use Rattle.definition.proofs.DetailLaws.{listing-height}
use Rattle.layout.specs.Places.{rows_forest}
use Rattle.layout.specs.Shown.{list_in}
use Rattle.record.specs.Laying.{Listed}
use Rattle.record.proofs.LaidLaws.{listed-fields}

-- the lists of a laid record nest at most 130 deep
pub record-deep :
    {text : List ℕ} {w : List Row} {read : Answer Forest} {from to long : ℕ} →
    Listed text read w from to long →
    height (folded_all text (list_in w from to)) ≤ 130
record-deep {text} {w} {from = from} {to} h =
    listing-height text (rows_forest w from to) (list_in w from to) (listed-fields h)
