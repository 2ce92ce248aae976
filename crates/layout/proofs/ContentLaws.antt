-- Bounds of what an elementary item holds: its width, its precision and its scale, its bits.
-- Assumes nothing.
use Prim.Native.Nat.{ℕ, zero, suc, ◌+◌, ◌≤◌}
use mathlib.Core.Path.{◌≡◌, refl, sym, ap, subst, ◌∙◌}
use mathlib.Core.Bool.{Bool, true, false, ◌&&◌, ◌||◌, not}
use mathlib.Core.List.{List, [], ◌∷◌, ◌++◌}
use native.Mathlib.Omega.{arith}
use lib.Dec.{leb, ltb}
use lib.ListN.{length, replicate, length-append, length-replicate}
use borrow.Author.Tests.{ltb-false}
use Rattle.std.proofs.lemmas.Bool.{or_parts}
use Rattle.definition.specs.declared.Usage.{Usage}
use Rattle.definition.specs.declared.ItemUsage.{ItemUsage}
use Rattle.definition.specs.declared.SignKind.{SignKind}
use Rattle.definition.specs.declared.Digits.{Digits}
use Rattle.definition.specs.declared.Pictured.{Pictured}
use Rattle.definition.specs.declared.Statement.{Statement}
use Rattle.definition.specs.declared.TheConstants.{MOST_BYTES, MOST_DIGITS, LONGEST_MASK}
use Rattle.std.specs.Prelude.{if◌then◌else◌, Option}
use Rattle.definition.specs.Basic.{upper, Ok}
use Rattle.definition.specs.Tree.{Forest, leaf, item}
use Rattle.definition.specs.Picture.{expand, all_digits, stored_digits, fraction, is_text, is_masked, mask, pictured}
use Rattle.definition.specs.Picture.{sign_bytes, storage_width, numeric, kinded, too_long, symbols}
use Rattle.definition.specs.Picture.{picture}
use Rattle.definition.specs.Statement.{usage_of}
use Rattle.definition.specs.Storage.{under_usage}
use Rattle.definition.specs.Layout.{content}
use Rattle.definition.proofs.Answers.{through, given-same, not-refused}
use Rattle.definition.proofs.PictureLaws.{tally-le, without-length, mask-width}

-- ---------------------------------------------------------------- symbols

-- no more than `MOST_SYMBOLS` symbols stand
few : (bs : List ℕ) (at n skip : ℕ) {l : List ℕ} → n ≤ MOST_BYTES → expand at n skip bs ≡ Ok l → n + length l ≤ MOST_BYTES
unfolding expand
few [] at n skip h e = let same : [] ≡ _ = given-same e in rw (← same) (omega arith)
few (b ∷ bs) at n (suc skip) h e = few bs at n skip h e
few (b ∷ bs) at n zero h e =
    through _ _ e λ r e₁ h₁.
    through _ _ h₁ λ u e₂ h₂.
    through _ _ h₂ λ m e₃ h₃.
    let ok : n + r.0 ≤ MOST_BYTES = ltb-false MOST_BYTES (n + r.0) (not-refused (ltb MOST_BYTES (n + r.0)) _ e₂) in
    let ih = few bs at (n + r.0) r.1 ok e₃ in
    let same : replicate r.0 (upper b) ++ m ≡ _ = given-same h₃ in
    rw (← same, length-append, length-replicate) (omega arith)

-- ---------------------------------------------------------------- kind and width

-- a width of at most 65,536
pub record Bounded (c : Pictured) : Type 0 where
  pub width : c.width ≤ 65536

-- by a test
by-test : (b : Bool) (c d : Pictured) → (b ≡ true → Bounded c) → (b ≡ false → Bounded d) → Bounded (if b then c else d)
by-test true c d p q = p refl
by-test false c d p q = q refl

one_byte : (g : SignKind) → sign_bytes g ≤ 1
one_byte SignKind.Unsigned = omega arith
one_byte SignKind.Embedded = omega arith
one_byte SignKind.LeadingSeparate = omega arith
one_byte SignKind.TrailingSeparate = omega arith

eight : (a b : Bool) → (if a then 2 else if b then 4 else 8) ≤ 8
eight true b = omega arith
eight false true = omega arith
eight false false = omega arith

module _ (precision scale digits : ℕ) (h : precision ≤ MOST_DIGITS) (l : scale ≤ precision) (d : digits ≤ precision) (signed : Bool) (g : SignKind) (o : Option Digits) where
  numeric-bounded : (u : Usage) → Bounded (pictured (numeric u precision scale signed g) o (storage_width u g digits))
  numeric-bounded Usage.Display = record { width = omega (arith, one_byte g) }
  numeric-bounded Usage.Comp3 = record { width = omega arith }
  numeric-bounded Usage.Comp = record { width = omega (arith, eight (leb digits 4) (leb digits 9)) }

module _ (u : Usage) (g : Option SignKind) (l : List ℕ) (h : length l ≤ MOST_BYTES) (n : too_long u l ≡ false) where
  short : is_text l ≡ false → all_digits l ≤ MOST_DIGITS
  short e =
      let q : (ltb MOST_DIGITS (all_digits l) || is_masked u l && ltb LONGEST_MASK (length (mask l))) ≡ false = ap (λ (b : Bool). not b && (ltb MOST_DIGITS (all_digits l) || is_masked u l && ltb LONGEST_MASK (length (mask l)))) (sym e) ∙ n in
      ltb-false MOST_DIGITS (all_digits l) (or_parts (ltb MOST_DIGITS (all_digits l)) (is_masked u l && ltb LONGEST_MASK (length (mask l))) q).0

  kinded-bounded : Bounded (kinded u g l)
  unfolding kinded
  kinded-bounded =
      by-test (is_text l) _ _
      (λ e. record { width = omega (arith, tally-le "XA" l) })
      (λ e.
      let d = short e in
      by-test (is_masked u l) _ _
      (λ m. record { width = omega (arith, without-length "SV" l, mask-width l) })
      (λ m. numeric-bounded (all_digits l) (fraction l) (stored_digits l) d (omega arith) (omega arith) _ _ _ u))

-- ---------------------------------------------------------------- an item

picture-bounded : (at : ℕ) (u : Usage) (g : Option SignKind) (bs : List ℕ) {c : Pictured} → picture at u g bs ≡ Ok c → Bounded c
unfolding picture symbols
picture-bounded at u g bs e =
    through _ _ e λ l e₁ h₁.
    through _ _ e₁ λ m e₂ h₂.
    through _ _ h₂ λ x e₃ h₃.
    through _ _ h₃ λ y e₄ h₄.
    through _ _ h₄ λ z e₅ h₅.
    let same : m ≡ l = given-same h₅ in
    let n = not-refused (too_long u m) _ e₅ in
    let fits = few _ at 0 0 (omega arith) e₂ in
    subst Bounded (given-same h₁) (subst (λ (x : List ℕ). Bounded (kinded u g x)) same (kinded-bounded u g m (omega arith) n))

under-bounded : (text : List ℕ) (s : Statement) (u : ItemUsage) {c : Pictured} → under_usage text s u ≡ Ok c → Bounded c
under-bounded text s (ItemUsage.Picture u) e = through _ _ e λ x e₁ h₁. picture-bounded s.at _ _ _ h₁
under-bounded text s ItemUsage.Comp1 e =
    through _ _ e λ x e₁ h₁. subst Bounded (given-same h₁) (record { width = omega arith })
under-bounded text s ItemUsage.Comp2 e =
    through _ _ e λ x e₁ h₁. subst Bounded (given-same h₁) (record { width = omega arith })

-- an item without children
pub leaf-bounded : (text : List ℕ) (s : Statement) {c : Pictured} → content text s leaf ≡ Ok c → Bounded c
leaf-bounded text s e = under-bounded text s (usage_of s.usage) e

-- any item, its children aside
pub content-bounded : (text : List ℕ) (s : Statement) (kids : Forest) {c : Pictured} → content text s kids ≡ Ok c → Bounded c
content-bounded text s leaf e = leaf-bounded text s e
content-bounded text s (item t more later) e = subst Bounded (given-same e) (record { width = omega arith })
