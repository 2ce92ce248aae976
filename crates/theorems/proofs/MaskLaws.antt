-- Of an accepted copybook each edited item at the top has a mask, which is answered of its picture.
-- Assumes nothing.
use Prim.Native.Nat.{ℕ, zero, suc, ◌+◌}
use mathlib.Core.Path.{◌≡◌, refl, sym, subst}
use mathlib.Core.Bool.{Bool, true, false, ◌&&◌, not}
use mathlib.Core.List.{List, [], ◌∷◌}
use native.Mathlib.Omega.{arith}
use lib.Dec.{eqb, ltb}
use lib.ListN.{length, take, drop, length-drop}
use Rattle.std.proofs.lemmas.List.{length-take}
use Rattle.std.specs.Prelude.{Option, None, if◌then◌else◌}
use Rattle.definition.specs.declared.Span.{Span}
use Rattle.definition.specs.declared.NumRepr.{NumRepr}
use Rattle.definition.specs.declared.Usage.{Usage}
use Rattle.definition.specs.declared.ItemUsage.{ItemUsage}
use Rattle.definition.specs.declared.SignKind.{SignKind}
use Rattle.definition.specs.declared.FieldKind.{FieldKind}
use Rattle.definition.specs.declared.Pictured.{Pictured}
use Rattle.definition.specs.declared.Statement.{Statement}
use Rattle.definition.specs.declared.Entry.{Entry}
use Rattle.definition.specs.declared.TheConstants.{MOST_SYMBOLS}
use Rattle.definition.specs.Basic.{part, Ok, and_then}
use Rattle.definition.specs.Statement.{sign_of, usage_of}
use Rattle.definition.specs.Tree.{Forest, leaf, item}
use Rattle.definition.specs.Picture.{repeat, expand, legal, is_text, mixed, too_long, is_masked, is_embedded, mask, numeric, kinded, symbols, picture, trim}
use Rattle.definition.specs.Fold.{Entries, end, entry, Place, place_of, redefiners, with_redefiners, folded_list}
use Rattle.definition.specs.Fold.{folded_below}
use Rattle.definition.specs.Storage.{under_usage}
use Rattle.definition.specs.Layout.{Laid, content, lay}
use Rattle.definition.specs.Record.{layout}
use Rattle.definition.specs.Calls.{first_wide, text_checks, entry_checks, record_tree, record_fields, entries, picture_mask}
use Rattle.definition.proofs.Answers.{through, given-same, not-refused}
use Rattle.definition.proofs.Cover.{item-laid, laid-out}
use Rattle.theorems.specs.Keys.{Masked}

-- ---------------------------------------------------------------- a part of a text passes its checks

narrow-take : (bs : List ℕ) (n p q : ℕ) → first_wide p bs ≡ None → first_wide q (take n bs) ≡ None
unfolding first_wide
narrow-take [] zero p q h = refl
narrow-take [] (suc n) p q h = refl
narrow-take (b ∷ bs) zero p q h = refl
narrow-take (b ∷ bs) (suc n) p q h = grind (arith, narrow-take bs n (p + 1) (q + 1))

narrow-same : (bs : List ℕ) (p q : ℕ) → first_wide p bs ≡ None → first_wide q bs ≡ None
unfolding first_wide
narrow-same [] p q h = refl
narrow-same (b ∷ bs) p q h = grind (arith, narrow-same bs (p + 1) (q + 1))

narrow-drop : (bs : List ℕ) (m p q : ℕ) → first_wide p bs ≡ None → first_wide q (drop m bs) ≡ None
unfolding first_wide
narrow-drop [] zero p q h = refl
narrow-drop [] (suc m) p q h = refl
narrow-drop (b ∷ bs) zero p q h = narrow-same (b ∷ bs) p q h
narrow-drop (b ∷ bs) (suc m) p q h = grind (arith, narrow-drop bs m (p + 1) q)

part-passes :
    (text : List ℕ) (m n : ℕ) → text_checks text ≡ Ok tt → text_checks (take n (drop m text)) ≡ Ok tt
unfolding text_checks and_then
part-passes text m n h =
    grind (
      arith,
      narrow-take (drop m text) n 0 0,
      narrow-drop text m 0 0,
      length-take n (drop m text),
      length-drop m text,
    )

-- ---------------------------------------------------------------- symbols, whatever position is told

repeat-at : (at : ℕ) (bs : List ℕ) {r : ℕ × ℕ} → repeat at bs ≡ Ok r → repeat 0 bs ≡ Ok r
unfolding repeat and_then
repeat-at at [] h = h
repeat-at at (b ∷ bs) h = grind arith

expand-at : (bs : List ℕ) (at n skip : ℕ) {l : List ℕ} → expand at n skip bs ≡ Ok l → expand 0 n skip bs ≡ Ok l
unfolding expand and_then
expand-at [] at n skip h = h
expand-at (b ∷ bs) at n (suc skip) h = expand-at bs at n skip h
expand-at (b ∷ bs) at n zero h =
    through _ _ h λ (r : ℕ × ℕ) e₁ h₁.
    through _ _ h₁ λ _ e₂ h₂.
    through _ _ h₂ λ l e₃ h₃.
    let small = not-refused (ltb MOST_SYMBOLS (n + r.0)) _ e₂ in
    rw (repeat-at at bs e₁, small, expand-at bs at (n + r.0) r.1 e₃) h₃

-- what symbols that are not refused went through
record Passed (at : ℕ) (usage : Usage) (bs l : List ℕ) : Type 0 where
  read : expand at 0 0 (trim bs) ≡ Ok l
  lawful : not (legal l) ≡ false
  unmixed : mixed l ≡ false
  short : too_long usage l ≡ false

passed : (at : ℕ) (usage : Usage) (bs : List ℕ) {l : List ℕ} → symbols at usage bs ≡ Ok l → Passed at usage bs l
unfolding symbols
passed at usage bs h =
    through _ _ h λ l e₁ h₁.
    through _ _ h₁ λ _ e₂ h₂.
    through _ _ h₂ λ _ e₃ h₃.
    through _ _ h₃ λ _ e₄ h₄.
    subst (Passed at usage bs) (given-same h₄)
    (record {
      read = e₁;
      lawful = not-refused (not (legal l)) _ e₂;
      unmixed = not-refused (mixed l) _ e₃;
      short = not-refused (too_long usage l) _ e₄;
    })

symbols-at : (at : ℕ) (usage : Usage) (bs : List ℕ) {l : List ℕ} → symbols at usage bs ≡ Ok l → symbols 0 usage bs ≡ Ok l
unfolding symbols and_then
symbols-at at usage bs h =
    let p = passed at usage bs h in rw (expand-at (trim bs) at 0 0 p.read, p.lawful, p.unmixed, p.short)

-- ---------------------------------------------------------------- the mask of an edited item

module _ (text : List ℕ) (w : Span) where
  abbrev pub HasMask : FieldKind → Type 0
  HasMask k = (m : List ℕ) × Masked text k w m

  by_test :
      (b : Bool) (x y : Pictured) → (b ≡ true → HasMask x.kind) → (b ≡ false → HasMask y.kind) →
      HasMask (if b then x else y).kind
  by_test true x y f g = f refl
  by_test false x y f g = g refl

  kind_by : (b : Bool) (x y : FieldKind) → HasMask x → HasMask y → HasMask (if b then x else y)
  kind_by true x y f g = f
  kind_by false x y f g = g

  numeric-mask : (usage : Usage) (p s : ℕ) (signed : Bool) (sign : SignKind) → HasMask (numeric usage p s signed sign)
  numeric-mask Usage.Display p s signed sign =
      let zoned = signed && is_embedded sign in
      kind_by (eqb s 0 && not zoned) (FieldKind.Int signed sign)
      (FieldKind.Decimal p s (if zoned then NumRepr.Zoned else NumRepr.Display) sign) ([], refl) ([], refl)
  numeric-mask Usage.Comp3 p s signed sign = ([], refl)
  numeric-mask Usage.Comp p s signed sign = ([], refl)

  -- what is edited is so under DISPLAY
  in-display : (usage : Usage) (l : List ℕ) → is_masked usage l ≡ true → usage ≡ Usage.Display
  in-display Usage.Display l h = refl
  in-display Usage.Comp3 l h = absurd (grind arith)
  in-display Usage.Comp l h = absurd (grind arith)

  short-mask :
      (usage : Usage) (l : List ℕ) →
      is_text l ≡ false →
      is_masked usage l ≡ true →
      too_long usage l ≡ false →
      ltb 255 (length (mask l)) ≡ false
  short-mask usage l t m h = grind arith

  edited-mask :
      (at : ℕ) (usage : Usage) (l : List ℕ) →
      text_checks (part text w) ≡ Ok tt →
      symbols at usage (part text w) ≡ Ok l →
      is_text l ≡ false →
      is_masked usage l ≡ true →
      too_long usage l ≡ false →
      picture_mask Usage.Display (part text w) 255 ≡ Ok (mask l)
  unfolding picture_mask and_then
  edited-mask at usage l c s t m h =
      let d = in-display usage l m in
      let s' : symbols 0 Usage.Display (part text w) ≡ Ok l =
      subst (λ (u : Usage). symbols 0 u (part text w) ≡ Ok l) d (symbols-at at usage (part text w) s) in
      let m' : is_masked Usage.Display l ≡ true = subst (λ (u : Usage). is_masked u l ≡ true) d m in
      let small = short-mask usage l t m h in
      rw (c, s', m', small)

  picture-kind :
      (at : ℕ) (usage : Usage) (sign : Option SignKind) {c : Pictured} →
      text_checks (part text w) ≡ Ok tt →
      picture at usage sign (part text w) ≡ Ok c →
      HasMask c.kind
  unfolding picture kinded
  picture-kind at usage sign k h =
      through _ _ h λ l read h₁.
      subst (λ (x : Pictured). HasMask x.kind) (given-same h₁)
      (by_test (is_text l) _ _ (λ _. ([], refl))
      (λ t.
      by_test (is_masked usage l) _ _
      (λ m. (mask l, edited-mask at usage l k read t m (passed at usage (part text w) read).short))
      (λ _. numeric-mask usage _ _ _ _)))

-- ---------------------------------------------------------------- the items of a listing

module _ (text : List ℕ) (checked : text_checks text ≡ Ok tt) where
  abbrev pub EachMask : Entries → Type 0
  EachMask end = Unit {0}
  EachMask (entry e members later) = HasMask text e.picture e.kind × EachMask later

  usage-mask :
      (s : Statement) (u : ItemUsage) {c : Pictured} →
      under_usage text s u ≡ Ok c →
      HasMask text s.clauses.picture c.kind
  usage-mask s (ItemUsage.Picture usage) h =
      through _ _ h λ _ _ h₁.
      picture-kind text s.clauses.picture s.at usage (sign_of s.clauses.sign)
      (part-passes text s.clauses.picture.start s.clauses.picture.len checked) h₁
  usage-mask s ItemUsage.Comp1 h =
      through _ _ h λ _ _ h₁.
      subst (λ (x : Pictured). HasMask text s.clauses.picture x.kind) (given-same h₁) ([], refl)
  usage-mask s ItemUsage.Comp2 h =
      through _ _ h λ _ _ h₁.
      subst (λ (x : Pictured). HasMask text s.clauses.picture x.kind) (given-same h₁) ([], refl)

  content-mask :
      (s : Statement) (kids : Forest) {c : Pictured} →
      content text s kids ≡ Ok c →
      HasMask text s.clauses.picture c.kind
  content-mask s (item t kids later) h =
      subst (λ (x : Pictured). HasMask text s.clauses.picture x.kind) (given-same h) ([], refl)
  content-mask s leaf h = usage-mask s (usage_of s.usage) h

  laid-masks :
      (f : Forest) (depth base : ℕ) (seen : List Place) (cursor reach : ℕ) (l : Laid) →
      lay text depth base seen cursor reach f ≡ Ok l →
      EachMask l.entries
  unfolding lay
  laid-masks leaf depth base seen cursor reach l h = subst (λ (x : Laid). EachMask x.entries) (given-same h) tt
  laid-masks (item s kids later) depth base seen cursor reach l h =
      let r = item-laid text depth base seen cursor reach s kids later l h in
      subst (λ (x : Laid). EachMask x.entries) (sym r.result)
      (content-mask s kids r.contains, laid-masks later depth base _ _ _ r.rest r.later-laid)

  below-masks : (es : Entries) → EachMask es → EachMask (folded_below text es)
  unfolding folded_below
  below-masks end h = tt
  below-masks (entry e members later) h = (h.0, below-masks later h.1)

  with-masks :
      (e : Entry) (members rs later : Entries) →
      HasMask text e.picture e.kind →
      EachMask later →
      EachMask (with_redefiners text e members rs later)
  with-masks e members end later h l = (h, l)
  with-masks e members (entry r ms rs) later h l = (([], refl), l)

  folded-masks : (es : Entries) (bases : List Place) → EachMask es → EachMask (folded_list text bases es)
  unfolding folded_list
  folded-masks end bases h = tt
  folded-masks (entry e members later) bases h =
      grind (
        arith,
        folded-masks later bases h.1,
        with-masks e members (redefiners text (place_of e) later) (folded_list text (place_of e ∷ bases) later) h.0
            (folded-masks later (place_of e ∷ bases) h.1),
      )

  layout-masks : (f : Forest) (es : Entries) → layout text f ≡ Ok es → EachMask es
  unfolding layout
  layout-masks f es h =
      through _ _ h λ tree laid q.
      let r = laid-out text f tree laid in
      let top = subst EachMask r.is (laid-masks f 0 0 [] 0 0 r.list r.list-laid) in
      subst EachMask (given-same q) (folded-masks (folded_below text tree) [] (below-masks tree top))

checks-of : (text : List ℕ) (work : ℕ) → entry_checks text work ≡ Ok tt → text_checks text ≡ Ok tt
unfolding entry_checks and_then
checks-of text work h = grind arith

pub record Masks (text : List ℕ) (es : Entries) : Type 0 where
  pub checked : text_checks text ≡ Ok tt
  pub each : EachMask text checked es

pub masks : (text : List ℕ) (work : ℕ) (es : Entries) → entries text work ≡ Ok es → Masks text es
unfolding entries record_fields record_tree
masks text work es h =
    through _ _ h λ f read laid.
    through _ _ read λ t read_tree _.
    through _ _ read_tree λ _ checks _.
    let c = checks-of text work checks in
    record { checked = c; each = layout-masks text c f es laid }
