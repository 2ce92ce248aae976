-- `cards::read_cards` meets its contract: what passes the checks of a text is short, so that there is room for the view.
use Prim.Native.Nat.{ℕ, ◌≤◌}
use mathlib.Core.Path.{◌≡◌, refl, sym}
use mathlib.Core.List.{List}
use native.Mathlib.Omega.{arith}
use lib.ListN.{length, take}
use Rattle.std.proofs.lemmas.List.{length-take-le}
use Rattle.definition.specs.declared.TheConstants.{MOST_BYTES}
use Rattle.definition.specs.Basic.{Ok, and_then}
use Rattle.definition.specs.Cards.{view}
use Rattle.definition.specs.Calls.{entry_checks, indicator_check, card_checks}
use Rattle.definition.proofs.CallsLaws.{passes}
use Rattle.text.specs.Viewed.{ViewRoom, CardsSeen}
use Rattle.text.proofs.cards.read_cards.Goals as goal

module _ (t : List ℕ) (work : ℕ) {u : Unit {0}} (e : Ok u ≡ entry_checks t work) (seen : List ℕ) where
  short : length t ≤ MOST_BYTES
  short = (passes t work e refl).short

  fits : MOST_BYTES ≤ length seen → ViewRoom t seen
  fits h = record { short = short; room = omega (arith, short) }

  ends : MOST_BYTES ≤ length seen → length t ≡ length (take (length t) seen)
  ends h = sym (length-take-le (length t) seen (omega (arith, short)))

  shows :
      (indicator_check t ≡ Ok tt) × (take (length t) seen ≡ view t) → CardsSeen t work (take (length t) seen)
  unfolding card_checks and_then
  shows v = record { passed = rw (← e) v.0; short = short; bytes = v.1 }

pub view_into-requires : goal.view_into-requires
view_into-requires c = let a = c.args in fits a.cards.now a.work_len c.in_ok-entry_checks.ensures a.room.now c.requires

pub slice_bounds-result-end : goal.slice_bounds-result-end
slice_bounds-result-end c =
    let a = c.args in
    ends a.cards.now a.work_len c.in_ok-entry_checks.ensures c.view_into.new.view (omega (arith, c.requires, c.view_into.auto.view))

pub returns : goal.returns
returns c =
    let a = c.args in
    shows a.cards.now a.work_len c.in_ok-entry_checks.ensures c.view_into.new.view c.in_ok-view_into.ensures
