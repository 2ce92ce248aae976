-- `mask::write_mask` meets its contract.
use Prim.Native.Nat.{ℕ, ◌+◌, ◌-◌, ◌≤◌, ◌<◌}
use mathlib.Core.Path.{◌≡◌, refl, sym, ap, ◌∙◌}
use mathlib.Core.List.{List, [], ◌∷◌}
use mathlib.Core.Logic.{⊎_elim}
use lib.ListN.{length, take, drop, replicate}
use lib.Seq.{length-sets}
use Rattle.definition.specs.declared.Refusal.{Refusal}
use Rattle.definition.specs.declared.TheConstants.{MOST_SYMBOLS}
use Rattle.definition.specs.Basic.{upper, Answer, Err, Ok}
use Rattle.definition.specs.Picture.{repeat, expand, without, mask}
use Rattle.definition.proofs.Lists.{order, rest_part}
use Rattle.definition.proofs.PictureLaws.{onto}
use Rattle.picture.proofs.Patterns.{first_rest, none-left}
use Rattle.picture.proofs.Repeating.{expand-refused, expand-many, expand-more}
use Rattle.picture.specs.Masks.{MaskRoom, put, Wrote}
use Rattle.picture.proofs.Masking.{room-run, room-rest, put-run}
use Rattle.picture.proofs.mask.write_mask.Invariants.{Left}
use Rattle.picture.proofs.mask.write_mask.Goals as goal

start : (t out : List ℕ) → MaskRoom 0 (expand 0 0 0 t) (length out) → Left t out out 0 t
start t out h = record { kept = refl; seen = 0; room = h; same = refl }

module _ {t out₀ out : List ℕ} {k : ℕ} {left : List ℕ} (inv : Left t out₀ out k left) where
  done : left ≡ [] → out ≡ put 0 (expand 0 0 0 t) out₀
  unfolding expand without
  done none = sym (inv.same ∙ ap (λ l. put k (expand 0 inv.seen 0 l) out) none)

  -- the next symbol
  module _ {first : ℕ} {rest : List ℕ} (whole : left ≡ first ∷ rest) where
    room-here : MaskRoom k (expand 0 inv.seen 0 (first ∷ rest)) (length out)
    room-here = rw whole at inv.room

    refused : {x : Refusal} → Err x ≡ repeat 0 rest → ⊥
    refused e = rw (expand-refused 0 inv.seen first rest (sym e)) at room-here

    module _ {n skip : ℕ} (e : ◌≡◌ {A = Answer (ℕ × ℕ)} (Ok (n, skip)) (repeat 0 rest)) where
      few : inv.seen + n ≤ MOST_SYMBOLS
      few =
          ⊎_elim
          (λ (m : MOST_SYMBOLS < inv.seen + n). absurd (rw (expand-many 0 inv.seen first rest (sym e) m) at room-here))
          (λ (m : inv.seen + n ≤ MOST_SYMBOLS). m)
          (order MOST_SYMBOLS (inv.seen + n))

      after : Answer (List ℕ)
      after = expand 0 (inv.seen + n) 0 (drop skip rest)

      module _ {b : ℕ} (p : b ≡ upper first) where
        grown : expand 0 inv.seen 0 left ≡ onto (replicate n b) after
        unfolding after
        grown = ap (expand 0 inv.seen 0) whole ∙ expand-more 0 inv.seen first rest (sym e) few ∙ rw (← p)

        has_room : k + length (mask (replicate n b)) ≤ length out
        has_room = room-run k (replicate n b) after (rw grown at inv.room)

        go_on : {k' : ℕ} {out' : List ℕ} → Wrote out k b n k' out' → Left t out₀ out' k' (take (length rest - skip) (drop skip rest))
        unfolding after
        go_on {k'} {out'} w =
            let long : length out' ≡ length out = ap length w.same ∙ length-sets out k (mask (replicate n b)) in
            rw (rest_part rest skip)
            (record {
              kept = long ∙ inv.kept;
              seen = inv.seen + n;
              room = rw (long, w.next) (room-rest k (replicate n b) after (length out) (rw grown at inv.room));
              same = inv.same ∙ rw (grown, w.next, w.same) (put-run k (replicate n b) after out);
            })

pub loop-left-init : goal.loop-left-init
loop-left-init c = search start

pub write_run-k-requires : goal.write_run-k-requires
write_run-k-requires c =
    has_room c.loop-left.invariant (first_rest _ c.in-len1-up.len_at_least) c.in-Ok.ensures.same c.upper.ensures

pub loop-left-preserved : goal.loop-left-preserved
loop-left-preserved c =
    go_on c.loop-left.invariant (first_rest _ c.in-len1-up.len_at_least) c.in-Ok.ensures.same c.upper.ensures
    c.write_run-k.ensures

pub returns-in_default-repeat_at : goal.returns-in_default-repeat_at
returns-in_default-repeat_at c =
    absurd
    (refused c.loop-left.invariant (first_rest _ c.in-len1-up.len_at_least) c.in_default-repeat_at.ensures.same)

pub returns : goal.returns
returns c = done c.loop-left.invariant (none-left _ c.in_default.len_below)
