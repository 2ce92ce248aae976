use Prim.Native.Nat.{ℕ, ◌+◌, ◌-◌, ◌≤◌, ◌<◌}
use mathlib.Core.Path.{◌≡◌, sym, ◌∙◌, ap}
use mathlib.Core.Bool.{Bool, true, false, ◌&&◌}
use mathlib.Core.List.{List, append-nil, append_assoc}
use Rattle.std.specs.Prelude.{Option, None, Some}
use native.Mathlib.Omega.{arith}
use native.Mathlib.Numerals.{add-one}
use lib.Dec.{eqb}
use lib.ListN.{length, get_or, set, take, drop, length-set, drop_of_length-le}
use lib.Seq.{take-suc-set}
use Rattle.definition.specs.declared.Refusal.{Refusal}
use Rattle.std.specs.Prelude.{if◌then◌else◌}
use Rattle.definition.specs.Basic.{Err, Ok}
use Rattle.definition.specs.Cards.{indicator_column, column_next, code_next, shown, view, view_from, other_indicator, first_other}
use Rattle.definition.specs.Calls.{indicator_check}
use Rattle.std.proofs.lemmas.List.{drop_more}
use Rattle.definition.proofs.Lists.{rest_part}
use Rattle.text.proofs.cards.view_into.Invariants.{Left}
use Rattle.text.proofs.cards.view_into.Goals as goal

column-small : (n b i : ℕ) → n ≤ i + 1 → column_next n b ≤ i + 1 + 1
column-small n b i h = by-test (eqb b 10)
  where
    by-test : (x : Bool) → if◌then◌else◌ x 1 (n + 1) ≤ i + 1 + 1
    by-test true = omega arith
    by-test false = omega arith

-- 51, or none
found :
    (text : List ℕ) (o : Option ℕ) →
    first_other 0 1 text ≡ o →
    indicator_check text ≡ elim o [ None ↦ Ok tt | Some p ↦ Err (Refusal.BadIndicator p) ]
unfolding indicator_check
found text o e = rw (e, indicator_check)

module _ {t out₀ out : List ℕ} {i n : ℕ} {code : Bool} (inv : Left t out₀ out i n code) where
  module _ {r : Bool} (h : i < length t) (p : r ≡ (eqb n indicator_column && other_indicator (get_or t i 0) (take (length t - (i + 1)) (drop (i + 1) t)))) where
    is-other : (eqb n indicator_column && other_indicator (get_or t i 0) (drop (i + 1) t)) ≡ r
    is-other = sym (p ∙ ap (λ (bs : List ℕ). eqb n indicator_column && other_indicator (get_or t i 0) bs) (rest_part t (i + 1)))

    -- an indicator that is refused
    stops : r ≡ true → indicator_check t ≡ Err (Refusal.BadIndicator i)
    unfolding first_other
    stops y = found t (Some i) (inv.other ∙ rw (drop_more t i 0 h, is-other, y))

    -- a byte that is seen
    next :
        {s n' : ℕ} {code' : Bool} →
        r ≡ false → s ≡ shown n code (get_or t i 0) → code' ≡ code_next n code (get_or t i 0) → n' ≡ column_next n (get_or t i 0) →
        Left t out₀ (set out i s) (i + 1) n' code'
    unfolding view_from first_other
    next {s = s} y es ec en =
        record {
          inside = omega arith;
          size = omega (arith, inv.size, length-set out i s);
          room = omega (arith, inv.room, length-set out i s);
          small = inv.small;
          column = rw en (column-small n (get_or t i 0) i inv.column);
          seen =
              inv.seen
              ∙ rw (drop_more t i 0 h, add-one i, take-suc-set out i s (omega (arith, inv.room)), append_assoc)
              (rw (es, ec, en));
          other = inv.other ∙ rw (drop_more t i 0 h, is-other, y, en);
        }

  done : length t ≤ i → (indicator_check t ≡ Ok tt) × (take (length t) out ≡ view t)
  unfolding view_from first_other
  done h =
      let e : i ≡ length t = omega (arith, inv.inside) in (
        found t None (inv.other ∙ rw (drop_of_length-le t h)),
        sym (inv.seen ∙ rw (drop_of_length-le t h, append-nil, e)),
      )

pub returns-then-is_refused : goal.returns-then-is_refused
returns-then-is_refused c = search stops

pub loop-i-preserved : goal.loop-i-preserved
loop-i-preserved c = search next

pub returns : goal.returns
returns c = done c.loop-i.invariant c.loop-i-test.false
