-- Laws of the writing of a mask: a run, then the others; and what the call for one answers.
-- Assumes nothing.
use Prim.Native.Nat.{ℕ, ◌+◌, ◌≤◌, ◌<◌}
use mathlib.Core.Path.{◌≡◌, refl, sym, ap, ap₂, ◌∙◌}
use mathlib.Core.Bool.{true, false}
use mathlib.Core.List.{List, [], ◌++◌}
use native.Mathlib.Nat.{zero-add}
use native.Mathlib.Omega.{arith}
use lib.ListN.{length, length-append, drop}
use lib.Seq.{sets, sets-eq}
use borrow.Author.Tests.{lt-ltb, le-ltb}
use Rattle.definition.specs.declared.Refusal.{Refusal}
use Rattle.definition.specs.declared.Usage.{Usage}
use Rattle.definition.specs.Basic.{Answer, Err, Ok, and_then}
use Rattle.definition.specs.Calls.{after_writing, left, picture_mask, text_checks}
use Rattle.definition.specs.Picture.{trim, expand, mask, is_masked}
use Rattle.picture.specs.declared.PicShape.{PicShape}
use Rattle.picture.specs.Kinds.{masked_by, shaped}
use Rattle.picture.proofs.Shapes.{Behind, behind, behind-refused}
use Rattle.definition.proofs.Lists.{sets-append}
use Rattle.definition.proofs.PictureLaws.{onto, without-append}
use Rattle.picture.specs.Masks.{MaskRoom, put, mask_in}

mask-sum : (p l : List ℕ) → length (mask (p ++ l)) ≡ length (mask p) + length (mask l)
mask-sum p l = ap length (without-append "SV" p l) ∙ length-append (mask p) (mask l)

module _ (k : ℕ) (p : List ℕ) where
  pub room-run : (x : Answer (List ℕ)) {room : ℕ} → MaskRoom k (onto p x) room → k + length (mask p) ≤ room
  unfolding and_then
  room-run (Err r) h = absurd h
  room-run (Ok l) h = omega (arith, mask-sum p l)

  pub room-rest : (x : Answer (List ℕ)) (room : ℕ) → MaskRoom k (onto p x) room → MaskRoom (k + length (mask p)) x room
  unfolding and_then
  room-rest (Err r) room h = absurd h
  room-rest (Ok l) room h = omega (arith, mask-sum p l)

  pub put-run : (x : Answer (List ℕ)) (out : List ℕ) → put k (onto p x) out ≡ put (k + length (mask p)) x (sets out k (mask p))
  unfolding and_then
  put-run (Err r) out = refl
  put-run (Ok l) out = ap (sets out k) (without-append "SV" p l) ∙ sets-append (mask p) (mask l) out k

-- ---------------------------------------------------------------- the call

-- what stands in the output after a mask that has room
whole : (m out : List ℕ) → length m ≤ length out → sets out 0 m ≡ m ++ drop (length m) out
whole m out h = sets-eq m out 0 (omega arith) ∙ ap (λ (n : ℕ). m ++ drop n out) (zero-add (length m))

module _ (usage : Usage) (bs out : List ℕ) where
  pub text-refused : {x : Refusal} → Err x ≡ text_checks bs → picture_mask usage bs (length out) ≡ Err x
  unfolding picture_mask and_then
  text-refused e = rw (← e)

  pub text-passed : Ok tt ≡ text_checks bs → picture_mask usage bs (length out) ≡ mask_in usage bs (length out)
  unfolding picture_mask mask_in and_then
  text-passed e = rw (← e)

  pub shape-refused : {x : Refusal} → Err x ≡ shaped 0 usage bs → mask_in usage bs (length out) ≡ Err x
  unfolding mask_in and_then
  shape-refused e = rw (behind-refused 0 usage bs e)

  module _ {s : PicShape} (e : Ok s ≡ shaped 0 usage bs) where
    b : Behind 0 usage bs s
    b = behind 0 usage bs e

    masked : is_masked usage b.list ≡ masked_by usage s
    masked = sym (ap (masked_by usage) b.shape)

    wide : length (mask b.list) ≡ s.mask
    wide = ap (λ (x : PicShape). x.mask) (sym b.shape)

    pub no-mask : masked_by usage s ≡ false → mask_in usage bs (length out) ≡ Ok []
    unfolding mask_in and_then
    no-mask y = rw (b.are, masked, y, le-ltb (length out) 0 (omega arith))

    module _ (y : masked_by usage s ≡ true) where
      pub mask-long : length out < s.mask → mask_in usage bs (length out) ≡ Err (Refusal.OutputTooShort s.mask)
      unfolding mask_in and_then
      mask-long h = rw (b.are, masked, y, wide, lt-ltb (length out) s.mask h)

      module _ (h : s.mask ≤ length out) {w : List ℕ} (t : w ≡ trim bs) where
        expanded : expand 0 0 0 w ≡ Ok b.list
        expanded = ap (expand 0 0 0) t ∙ b.expanded

        pub mask-room : MaskRoom 0 (expand 0 0 0 w) (length out)
        mask-room = rw expanded (omega (arith, wide))

        answered : mask_in usage bs (length out) ≡ Ok (mask b.list)
        unfolding mask_in and_then
        answered = rw (b.are, masked, y, le-ltb (length out) (length (mask b.list)) (omega (arith, wide)))

        pub mask-written :
            {out' : List ℕ} → out' ≡ put 0 (expand 0 0 0 w) out →
            left (Ok s.mask) out' [] ≡ after_writing (mask_in usage bs (length out)) out []
        mask-written p =
            rw answered
            (ap₂ (λ a o. left a o []) (ap Ok (sym wide))
            (p ∙ ap (λ (x : Answer (List ℕ)). put 0 x out) expanded ∙ whole (mask b.list) out (omega (arith, wide))))

pub ruleset mask_steps = (shape-refused, no-mask, mask-long, mask-room, mask-written)

pub ruleset checked_steps = (text-refused, text-passed)
