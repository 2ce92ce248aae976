-- `write_text` meets its contract: a text that passes the checks is short.
use Prim.Native.Nat.{ℕ, ◌≤◌}
use mathlib.Core.Path.{◌≡◌, refl}
use mathlib.Core.List.{List}
use lib.ListN.{length}
use Rattle.definition.specs.declared.TheConstants.{MOST_BYTES}
use Rattle.definition.specs.Basic.{Ok}
use Rattle.definition.specs.Calls.{entry_checks}
use Rattle.definition.proofs.CallsLaws.{passes}
use Rattle.wording.proofs.write_text.Goals as goal

short : (text : List ℕ) (work : ℕ) {u : Unit {0}} → Ok u ≡ entry_checks text work → length text ≤ MOST_BYTES
short text work e = (passes text work e refl).short

pub open_check-requires : goal.open_check-requires
open_check-requires c = short c.args.text.now c.args.work c.in_ok-entry_checks.ensures

pub invariant_of-write : goal.invariant_of-write
invariant_of-write c = record { short = short c.args.text.now c.args.work c.in_ok-entry_checks.ensures }
