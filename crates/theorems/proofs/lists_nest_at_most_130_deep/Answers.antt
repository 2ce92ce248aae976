use mathlib.Core.Path.{subst}
use Prim.Native.Nat.{◌≤◌}
use Rattle.definition.specs.Details.{height}
use Rattle.definition.specs.Record.{layout}
use Rattle.definition.specs.Fold.{Entries}
use Rattle.definition.proofs.Answers.{through, given-same}
use Rattle.definition.proofs.DetailLaws.{listing-height}
use Rattle.theorems.proofs.lists_nest_at_most_130_deep.Goals as goal

pub returns : goal.returns
unfolding layout
returns c text f es h =
    through _ _ h λ tree laid q. subst (λ (x : Entries). height x ≤ 130) (given-same q) (listing-height text f tree laid)
