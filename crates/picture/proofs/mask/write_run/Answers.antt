-- `mask::write_run` meets its contract.
use Prim.Native.Nat.{ℕ, ◌+◌, ◌-◌, ◌≤◌}
use mathlib.Core.Path.{◌≡◌, sym, ap, ◌∙◌}
use mathlib.Core.Bool.{Bool, true, false}
use mathlib.Core.List.{List, []}
use native.Mathlib.Nat.{add-zero, add-sub_cancel_left}
use native.Mathlib.Omega.{arith}
use lib.ListN.{length, take, drop, replicate, length-replicate, length-drop}
use lib.Seq.{sets, sets-eq, take_all}
use borrow.Rule.Slice.PartMut.{put_mid}
use Rattle.std.proofs.lemmas.List.{length-take-le}
use Rattle.std.proofs.lemmas.Slice.{put_mid-paste}
use Rattle.definition.specs.Picture.{mask}
use Rattle.definition.proofs.PictureLaws.{without-run}
use Rattle.picture.specs.Masks.{hidden, Wrote}
use Rattle.picture.proofs.mask.write_run.Goals as goal

-- a part of the output that was written over
put-part : (out bs : List ℕ) (k n : ℕ) {part : List ℕ} → part ≡ bs → n ≡ length bs → k + n ≤ length out → put_mid k (k + n - k) out part ≡ sets out k bs
put-part out bs k n {part} f e h =
    put_mid-paste k (k + n - k) out part bs n f (omega arith) e
    ∙ rw e (rw (take_all (length bs) bs (omega arith)) (sym (sets-eq bs out k (omega arith))))

module _ (b n : ℕ) {t : Bool} (e : t ≡ hidden b) where
  unseen : t ≡ true → mask (replicate n b) ≡ []
  unseen y = without-run "SV" b n ∙ rw (← e, y)

  shown : t ≡ false → mask (replicate n b) ≡ replicate n b
  shown y = without-run "SV" b n ∙ rw (← e, y)

  module _ (k : ℕ) where
    room : t ≡ false → {room : ℕ} → k + length (mask (replicate n b)) ≤ room → k + n ≤ room
    room y h = rw (shown y, length-replicate n b) at h

    none : t ≡ true → (out : List ℕ) → Wrote out k b n k out
    none y out = record { next = rw (unseen y, add-zero k); same = rw (unseen y) }

    -- a part of the output filled with the byte
    filled :
        (out : List ℕ) {part : List ℕ} → k + n ≤ length out → part ≡ replicate (length (take (k + n - k) (drop k out))) b →
        put_mid k (k + n - k) out part ≡ sets out k (replicate n b)
    filled out {part} h f =
        let long : length (take (k + n - k) (drop k out)) ≡ n =
        length-take-le (k + n - k) (drop k out) (omega (arith, length-drop k out)) ∙ add-sub_cancel_left k n in
        put-part out (replicate n b) k n (f ∙ ap (λ m. replicate m b) long) (sym (length-replicate n b)) h

    some :
        t ≡ false → (out : List ℕ) → k + length (mask (replicate n b)) ≤ length out →
        {part : List ℕ} → part ≡ replicate (length (take (k + n - k) (drop k out))) b →
        Wrote out k b n (k + n) (put_mid k (k + n - k) out part)
    some y out l f =
        let h = filled out (room y l) f in
        record { next = rw (shown y, length-replicate n b); same = rw (shown y) h }

pub returns-then-is_hidden : goal.returns-then-is_hidden
returns-then-is_hidden c = search none

pub overflow_add-k : goal.overflow_add-k
overflow_add-k c = omega (arith, room c.args.b c.args.n c.is_hidden.ensures c.args.k c.if-is_hidden.false c.requires)

pub slice_bounds-fill-end : goal.slice_bounds-fill-end
slice_bounds-fill-end c = omega (arith, room c.args.b c.args.n c.is_hidden.ensures c.args.k c.if-is_hidden.false c.requires)

pub returns : goal.returns
returns c =
    some c.args.b c.args.n c.is_hidden.ensures c.args.k c.if-is_hidden.false c.args.out.now c.requires (c.fill.ensures.after (λ y e. e))
