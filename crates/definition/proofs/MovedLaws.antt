-- A list that starts a multiple of its alignment later is laid the same. So all occurrences of a group are alike, for
-- the width of a group with OCCURS is a multiple of the alignment in it; and of a list's place in the record only the
-- remainder by 8 matters.
-- Assumes nothing.
use Prim.Native.Nat.{ℕ, zero, suc, ◌+◌, ◌*◌, ◌%◌, ◌/◌, ◌<◌, ◌∣◌, max}
use mathlib.Core.Path.{◌≡◌, refl, sym, ◌∙◌, ap, subst}
use mathlib.Core.Bool.{false}
use mathlib.Core.List.{List, [], ◌++◌}
use native.Mathlib.Omega.{arith}
use native.Mathlib.Nat.{dvd-zero, dvd_trans, dvd-mul_left_of_dvd, dvd-mul_right, dvd_of_mod-eq-zero, div-add-mod, zero-mul}
use Rattle.std.specs.Prelude.{Option, None, Some, if◌then◌else◌}
use Rattle.definition.specs.declared.Statement.{Statement}
use Rattle.definition.specs.declared.Refusal.{Refusal}
use Rattle.definition.specs.Basic.{is_given, fewest, Ok, or_refuse}
use Rattle.definition.specs.Tree.{Forest, leaf, item}
use Rattle.definition.specs.Storage.{alignment, place_alignment, width_alignment}
use Rattle.definition.specs.Fold.{Place, find, times}
use Rattle.definition.specs.Layout.{shallow, content, start, lay}
use Rattle.definition.specs.Owner.{Piece, slack_piece, extent, onward, repeated, size, slack_before, slack_after, once}
use Rattle.definition.specs.Owner.{laid_item, laid}
use Rattle.definition.proofs.Alignment.{aligning-positive, fewest-slack, fewest-moved, divides-8}
use Rattle.definition.proofs.LayoutLaws.{lay_item}
use Rattle.definition.proofs.Slack.{place-aligning, list-aligning, place-divides, kids-divide, later-divide}

-- ---------------------------------------------------------------- pieces

-- what is laid the same d bytes later
abbrev pub Alike : ℕ → (ℕ → List Piece) → Type 0
Alike d one = (p : ℕ) → one (p + d) ≡ one p

onward-moved :
    (ps : List Piece) (p d : ℕ) (more : ℕ → List Piece) →
    Alike d more →
    onward (p + d) ps more ≡ onward p ps more
onward-moved ps p d more h =
    let here : p + d + extent ps ≡ p + extent ps + d = omega arith in
    ap (λ (x : List Piece). ps ++ x) (ap more here ∙ h (p + extent ps))

repeated-moved : (n d : ℕ) (one : ℕ → List Piece) → Alike d one → Alike d (λ p. repeated n p one)
repeated-moved zero d one h p = refl
repeated-moved (suc n) d one h p =
    ap (λ (x : List Piece). onward (p + d) x (λ q. repeated n q one)) (h p)
    ∙ onward-moved (one p) p d (λ q. repeated n q one) (repeated-moved n d one h)

-- ---------------------------------------------------------------- lists

module _ (text : List ℕ) where
  pub once-moved :
      (k : ℕ) (s : Statement) (kids : Forest) (d : ℕ) (list : ℕ → List Piece) →
      Alike d list →
      Alike d (once text k s kids list)
  once-moved k s leaf d list h p = refl
  once-moved k s (item t more later) d list h p =
      ap (λ (x : List Piece). onward 0 x (slack_after text k s (item t more later))) (h p)

  item-moved :
      (k : ℕ) (s : Statement) (kids : Forest) (d : ℕ) (list : ℕ → List Piece) →
      place_alignment text s kids ∣ d →
      Alike d list →
      Alike d (λ p. laid_item text k p s kids list)
  item-moved k s kids d list a h p =
      let n = times s.clauses.occurs in
      let one = once text k s kids list in
      let before = slack_before text k p s kids in
      let same : slack_before text k (p + d) s kids ≡ before =
      ap (slack_piece k) (fewest-moved (place_alignment text s kids) p d a) in
      ap (λ (x : List Piece). onward (p + d) x (λ q. repeated n q one)) same
      ∙ onward-moved before p d (λ q. repeated n q one) (repeated-moved n d one (once-moved k s kids d list h))

  pub laid-moved : (f : Forest) (k d : ℕ) → alignment text f ∣ d → Alike d (λ p. laid text k p f)
  unfolding laid
  laid-moved leaf k d h p = refl
  laid-moved (item s kids later) k d h p =
      let list : ℕ → List Piece = λ q. laid text (suc k) q kids in
      let more : ℕ → List Piece = λ q. laid text (suc k + size kids) q later in
      let same =
      item-moved k s kids d list (place-divides text s kids later d h)
      (laid-moved kids (suc k) d (kids-divide text s kids later d h)) p in
      ap (λ (x : List Piece). onward (p + d) x more) same
      ∙ onward-moved (laid_item text k p s kids list) p d more
      (laid-moved later (suc k + size kids) d (later-divide text s kids later d h))

  -- the bytes from one occurrence of a group to a later one
  pub occurrence-divides :
      (s : Statement) (kids : Forest) (long i : ℕ) →
      is_given s.clauses.depending ≡ false →
      i < max 1 (times s.clauses.occurs) →
      alignment text kids ∣ i * (long + fewest (width_alignment text s kids) long)
  occurrence-divides s kids long i d l = by-occurs s.clauses.occurs refl l
    where
      a : ℕ
      a = alignment text kids

      by-occurs :
          (o : Option ℕ) →
          s.clauses.occurs ≡ o →
          i < max 1 (times o) →
          a ∣ i * (long + fewest (width_alignment text s kids) long)
      by-occurs None q l =
          let wide = long + fewest (width_alignment text s kids) long in
          let z : i ≡ 0 = omega arith in
          subst (λ (x : ℕ). a ∣ x) (sym (ap (λ (x : ℕ). x * wide) z ∙ zero-mul wide)) (dvd-zero a)
      by-occurs (Some n) q l =
          let padded : width_alignment text s kids ≡ a = rw (q, d) in
          let whole : a ∣ long + fewest (width_alignment text s kids) long =
          dvd_of_mod-eq-zero a
          (ap (λ (x : ℕ). (long + fewest x long) % a) padded ∙
          (fewest-slack a long (aligning-positive a (list-aligning text kids))).reaches) in
          dvd-mul_left_of_dvd a whole i

  -- ---------------------------------------------------------------- the remainder by 8

  start-moved :
      (s : Statement) (kids : Forest) (seen : List Place) (base cursor d : ℕ) →
      8 ∣ d →
      start text s kids seen (base + d) cursor ≡ start text s kids seen base cursor
  start-moved s kids seen base cursor d h =
      let a = place_alignment text s kids in
      let here : base + d + cursor ≡ base + cursor + d = omega arith in
      ap
      (λ (n : ℕ). if is_given s.clauses.redefines then or_refuse (Refusal.NoTarget s.at)
      (find text s.clauses.redefines seen)
      else Ok (cursor + n))
      (ap (fewest a) here ∙ fewest-moved a (base + cursor) d (dvd_trans a (divides-8 a (place-aligning text s kids)) h))

  -- a list that starts a multiple of 8 later has the same entries,
  pub lay-moved :
      (f : Forest) (depth base : ℕ) (seen : List Place) (cursor reach d : ℕ) →
      8 ∣ d →
      lay text depth (base + d) seen cursor reach f ≡ lay text depth base seen cursor reach f
  unfolding lay
  lay-moved leaf depth base seen cursor reach d h = refl
  lay-moved (item s kids later) depth base seen cursor reach d h =
      let below : (offset : ℕ) → lay text (suc depth) (base + d + offset) [] 0 0 kids ≡ lay text (suc depth)
      (base + offset) [] 0 0 kids =
      λ offset.
      let here : base + d + offset ≡ base + offset + d = omega arith in
      ap (λ (x : ℕ). lay text (suc depth) x [] 0 0 kids) here ∙ lay-moved kids (suc depth) (base + offset) [] 0 0 d h in
      λ i. lay_item text seen cursor reach s
      (content text s kids)
      (start-moved s kids seen base cursor d h i)
      (shallow (suc depth) kids)
      (λ offset. below offset i)
      (width_alignment text s kids)
      (λ seen' cursor' reach'. lay-moved later depth base seen' cursor' reach' d h i)

  -- so of its place only the remainder by 8 matters
  pub lay-remainder :
      (f : Forest) (depth base : ℕ) (seen : List Place) (cursor reach : ℕ) →
      lay text depth base seen cursor reach f ≡ lay text depth (base % 8) seen cursor reach f
  lay-remainder f depth base seen cursor reach =
      let whole : base ≡ base % 8 + 8 * (base / 8) = omega (arith, div-add-mod base 8) in
      ap (λ (x : ℕ). lay text depth x seen cursor reach f) whole
      ∙ lay-moved f depth (base % 8) seen cursor reach (8 * (base / 8)) (dvd-mul_right 8 (base / 8))
