-- Laws of the shape: by the tallies it is that of the symbols, the checks of the shape are those of the symbols, and kind
-- and width are theirs.
-- Assumes nothing.
use Prim.Native.Nat.{ℕ, ◌+◌, ◌-◌}
use mathlib.Core.Path.{◌≡◌, refl, sym, ap, ◌∙◌}
use mathlib.Core.Bool.{Bool, true, false, not}
use mathlib.Core.List.{List}
use native.Mathlib.Omega.{arith}
use lib.ListN.{length}
use Rattle.std.specs.Prelude.{Option}
use Rattle.definition.specs.declared.Refusal.{Refusal}
use Rattle.definition.specs.declared.SignKind.{SignKind}
use Rattle.definition.specs.declared.Usage.{Usage}
use Rattle.definition.specs.Basic.{Answer, Err, Ok, ◌>>=◌, and_then, refuse_if}
use Rattle.definition.specs.Picture.{trim, expand, tally, before_point, fraction, all_digits, stored_digits, without, mask}
use Rattle.definition.specs.Picture.{mixed, too_long, symbols, picture, kinded}
use Rattle.definition.proofs.Answers.{bound, through, given-same, map-refused}
use Rattle.definition.proofs.PictureLaws.{tally-sides, without-length, mask-width}
use Rattle.picture.specs.declared.symbols.Tallies.{Tallies}
use Rattle.picture.specs.declared.symbols.Half.{Half}
use Rattle.picture.specs.declared.PicShape.{PicShape}
use Rattle.picture.specs.Shape.{tallies, halves, nothing, counts}
use Rattle.picture.specs.Kinds.{stored_of, shape_of, shape_for, mixed_by, long_by, kinded_by, checked, shaped, Fit}
use Rattle.picture.proofs.Halves.{legal-halves}
use Rattle.picture.proofs.Counting.{no_digit}

-- the shape by the tallies
module _ (l : List ℕ) where
  stored_same : stored_of (tallies l) ≡ stored_digits l
  stored_same = omega (arith, tally-sides "9Z*" l no_digit)

  digits_same : stored_of (tallies l) + tally "P" l ≡ all_digits l
  digits_same = omega (arith, stored_same)

  scale_same : tally "9Z*" l - tally "9Z*" (before_point l) + tally "P" l ≡ fraction l
  scale_same = omega (arith, tally-sides "9Z*" l no_digit)

  mask-same : length l - tally "SV" l ≡ length (mask l)
  mask-same = omega (arith, without-length "SV" l)

  width_same : length l - tally "SV" l - tally "P" l ≡ length (without "P" (mask l))
  width_same = omega (arith, mask-same, mask-width l)

  pub shape_same : shape_of (tallies l) ≡ shape_for l
  shape_same i =
      record {
        text = (shape_for l).text;
        digits = digits_same i;
        stored = stored_same i;
        scale = scale_same i;
        signed = (shape_for l).signed;
        edited = (shape_for l).edited;
        mask = mask-same i;
        width = width_same i;
      }

-- the shape of the symbols that are not refused, by the checks of the shape
pub symbols-shape :
    (at : ℕ) (usage : Usage) (bs : List ℕ) {l : List ℕ} {s : PicShape} {half : Half} →
    expand at 0 0 (trim bs) ≡ Ok l → s ≡ shape_for l → half ≡ halves Half.Nothing l →
    shaped at usage bs ≡ (checked at usage s half >>= λ _. Ok s)
unfolding and_then symbols
symbols-shape at usage bs {l} e p h = rw (p, h, e, legal-halves l) (go (not (nothing (halves Half.Nothing l))) (mixed l) (too_long usage l))
  where
    go : (x y z : Bool) →
        ((refuse_if x (Refusal.BadSymbol at) >>= λ _. refuse_if y (Refusal.MixedPicture at) >>= λ _. refuse_if z (Refusal.TooLong at) >>= λ _. Ok l) >>= λ v. Ok (shape_for v)) ≡
        ((refuse_if x (Refusal.BadSymbol at) >>= λ _. refuse_if y (Refusal.MixedPicture at) >>= λ _. refuse_if z (Refusal.TooLong at)) >>= λ _. Ok (shape_for l))
    go true y z = refl
    go false true z = refl
    go false false true = refl
    go false false false = refl

-- what was counted of the trimmed picture
module _ (at : ℕ) (usage : Usage) (bs : List ℕ) {w : List ℕ} (trimmed : w ≡ trim bs) where
  -- a refusal of the counting is that of the symbols
  pub counts-refused : {r : Refusal} → Err r ≡ counts at w → shaped at usage bs ≡ Err r
  unfolding and_then symbols
  counts-refused h =
      rw (map-refused (λ l. (tallies l, halves Half.Nothing l)) (expand at 0 0 (trim bs)) (sym (rw trimmed at h)))

  module _ {t : Tallies} {half : Half} (h : ◌≡◌ {A = Answer (Tallies × Half)} (Ok (t, half)) (counts at w)) {s : PicShape} (is : s ≡ shape_of t) where
    by-checks : shaped at usage bs ≡ (checked at usage s half >>= λ _. Ok s)
    unfolding and_then
    by-checks = go (expand at 0 0 (trim bs)) refl (rw trimmed at h)
      where
        go : (x : Answer (List ℕ)) → expand at 0 0 (trim bs) ≡ x → ◌≡◌ {A = Answer (Tallies × Half)} (Ok (t, half)) (x >>= λ l. Ok (tallies l, halves Half.Nothing l)) → shaped at usage bs ≡ (checked at usage s half >>= λ _. Ok s)
        go (Err y) e h = absurd (let z : ◌≡◌ {A = ℕ} 0 1 = cc in omega arith)
        go (Ok l) e h =
            let both = given-same h in
            let same : t ≡ tallies l = ap (λ (x : Tallies × Half). x.0) both in
            let awaited : half ≡ halves Half.Nothing l = ap (λ (x : Tallies × Half). x.1) both in
            symbols-shape at usage bs e (is ∙ ap shape_of same ∙ shape_same l) awaited

    pub checks-refused : {r : Refusal} → Err r ≡ checked at usage s half → shaped at usage bs ≡ Err r
    unfolding and_then
    checks-refused e = rw (by-checks, ← e)

    pub checks-passed : Ok tt ≡ checked at usage s half → shaped at usage bs ≡ Ok s
    unfolding and_then
    checks-passed e = rw (by-checks, ← e)

-- a shape that passed the checks is not too long
not-long : (at : ℕ) (usage : Usage) (s : PicShape) (half : Half) → Ok tt ≡ checked at usage s half → long_by usage s ≡ false
unfolding and_then
not-long at usage s half e = go (not (nothing half)) (mixed_by s) (long_by usage s) e
  where
    go : (x y z : Bool) → Ok tt ≡ (refuse_if x (Refusal.BadSymbol at) >>= λ _. refuse_if y (Refusal.MixedPicture at) >>= λ _. refuse_if z (Refusal.TooLong at)) → z ≡ false
    go x y false e = refl
    go true y true e = absurd (let z : ◌≡◌ {A = ℕ} 0 1 = cc in omega arith)
    go false true true e = absurd (let z : ◌≡◌ {A = ℕ} 0 1 = cc in omega arith)
    go false false true e = absurd (let z : ◌≡◌ {A = ℕ} 0 1 = cc in omega arith)

pub shape-fits :
    (at : ℕ) (usage : Usage) (half : Half) (t : Tallies) {s : PicShape} →
    s ≡ shape_of t →
    Ok tt ≡ checked at usage s half →
    Fit usage s
shape-fits at usage half t {s} is e =
    record { short = not-long at usage s half e; part = rw is (omega arith); held = rw is (omega arith) }

pub ruleset shape_steps = (counts-refused, checks-passed, shape-fits)

-- the checks, one after the other
module _ (at : ℕ) (usage : Usage) (s : PicShape) (half : Half) where
  pub check-illegal : nothing half ≡ false → checked at usage s half ≡ Err (Refusal.BadSymbol at)
  unfolding and_then
  check-illegal x = rw x

  module _ (x : nothing half ≡ true) where
    pub check-mixed : mixed_by s ≡ true → checked at usage s half ≡ Err (Refusal.MixedPicture at)
    unfolding and_then
    check-mixed y = rw (x, y)

    module _ (y : mixed_by s ≡ false) where
      pub check-long : long_by usage s ≡ true → checked at usage s half ≡ Err (Refusal.TooLong at)
      unfolding and_then
      check-long z = rw (x, y, z)

      pub check-passed : long_by usage s ≡ false → checked at usage s half ≡ Ok tt
      unfolding and_then
      check-passed z = rw (x, y, z)

pub ruleset check_steps = (check-illegal, check-mixed, check-long, check-passed)

-- symbols that are not refused were expanded
symbols-expanded : (at : ℕ) (usage : Usage) (bs : List ℕ) {l : List ℕ} → symbols at usage bs ≡ Ok l → expand at 0 0 (trim bs) ≡ Ok l
unfolding symbols
symbols-expanded at usage bs h =
    through _ _ h λ _ e h₁.
    through _ _ h₁ λ _ _ h₂.
    through _ _ h₂ λ _ _ h₃.
    through _ _ h₃ λ _ _ h₄.
    e ∙ h₄

-- the symbols behind a shape
pub record Behind (at : ℕ) (usage : Usage) (bs : List ℕ) (s : PicShape) : Type 0 where
  pub list : List ℕ
  pub are : symbols at usage bs ≡ Ok list
  pub expanded : expand at 0 0 (trim bs) ≡ Ok list
  pub shape : s ≡ shape_for list

-- a shape that was read has symbols behind it
pub behind : (at : ℕ) (usage : Usage) (bs : List ℕ) {s : PicShape} → Ok s ≡ shaped at usage bs → Behind at usage bs s
behind at usage bs {s} given =
    let b = bound _ _ (sym given) in
    record { list = b.value; are = b.first; expanded = symbols-expanded at usage bs b.first; shape = sym (given-same b.rest) }

-- a refusal that was read is the symbols'
pub behind-refused : (at : ℕ) (usage : Usage) (bs : List ℕ) {x : Refusal} → Err x ≡ shaped at usage bs → symbols at usage bs ≡ Err x
behind-refused at usage bs e = map-refused shape_for (symbols at usage bs) (sym e)

-- ---------------------------------------------------------------- kind and width

module _ (at : ℕ) (usage : Usage) (sign : Option SignKind) (bs : List ℕ) where
  pub picture-refused : {x : Refusal} → Err x ≡ shaped at usage bs → picture at usage sign bs ≡ Err x
  unfolding picture and_then
  picture-refused e = rw (behind-refused at usage bs e)

  pub picture-given :
      {s : PicShape} → Ok s ≡ shaped at usage bs → picture at usage sign bs ≡ Ok (kinded_by usage sign s)
  unfolding picture kinded and_then
  picture-given e = let b = behind at usage bs e in rw b.are (ap Ok (sym (ap (kinded_by usage sign) b.shape)))

pub ruleset picture_steps = (picture-refused, picture-given)
