use mathlib.Core.Path.{refl}
use Rattle.definition.specs.Computing.{computing}
use Rattle.theorems.specs.Ungrouped.{lasting, lasting_all, plain_groups}
use Rattle.theorems.specs.Restarted.{lay_restarted, none_lost}
use Rattle.theorems.specs.Catches.{table}
use Rattle.theorems.proofs.the_catches_are_right.Goals as goal

pub returns : goal.returns
unfolding table computing lasting lasting_all plain_groups lay_restarted none_lost
returns c = record { rows = tt; worked = refl }
