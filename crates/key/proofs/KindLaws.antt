-- The derived test of two kinds: it holds where their details in the listing are the same.
-- Assumes nothing.
use mathlib.Core.Path.{◌≡◌}
use mathlib.Core.Bool.{Bool}
use native.Mathlib.Omega.{arith}
use Rattle.definition.specs.declared.FieldKind.{FieldKind}
use Rattle.definition.specs.contracts.FieldKindPartialEq.TheImpl as kind_eq
use Rattle.definition.specs.Basic.{same}
use Rattle.definition.specs.Key.{kind_details}

-- the derived test
abbrev pub same_kind : FieldKind → FieldKind → Bool
same_kind = (kind_eq.ghosts).eq

pub kinds-same : (a b : FieldKind) → same_kind a b ≡ same (kind_details a) (kind_details b)
unfolding same
kinds-same a b = grind arith

pub ruleset kind_steps = (kinds-same)
