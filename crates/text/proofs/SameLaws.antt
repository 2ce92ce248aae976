-- Laws of equal names: either may come first, and the one stands for the other; names with the same bytes have the same
-- fingerprint.
-- Assumes nothing.
use Prim.Native.Nat.{ℕ}
use mathlib.Core.Path.{◌≡◌, refl, sym, ap, ap₂}
use mathlib.Core.Bool.{Bool, true, false, ◌&&◌}
use mathlib.Core.List.{List, [], ◌∷◌}
use lib.Dec.{eqb}
use borrow.Author.Tests.{eqb-true, eqb-false, eq-eqb, ne_eqb}
use Rattle.definition.specs.declared.Span.{Span}
use Rattle.definition.specs.Basic.{same, uppers}
use Rattle.definition.specs.Fold.{name_of, same_name}
use Rattle.definition.proofs.WordLaws.{same-equal}
use Rattle.text.specs.Fingerprints.{fingerprint_of, name_fingerprint}

-- ---------------------------------------------------------------- the same bytes

eqb-sym : (x y : ℕ) → eqb x y ≡ eqb y x
eqb-sym x y = go (eqb x y) refl
  where
    go : (b : Bool) → eqb x y ≡ b → b ≡ eqb y x
    go true h = sym (eq-eqb y x (sym (eqb-true x y h)))
    go false h = sym (ne_eqb y x (λ e. eqb-false x y h (sym e)))

same-sym : (a b : List ℕ) → same a b ≡ same b a
unfolding same
same-sym [] [] = refl
same-sym [] (y ∷ ys) = refl
same-sym (x ∷ xs) [] = refl
same-sym (x ∷ xs) (y ∷ ys) = ap₂ ◌&&◌ (eqb-sym x y) (same-sym xs ys)

-- lists that differ somehow have not the same bytes
apart : (a b : List ℕ) → (a ≡ b → ⊥) → same a b ≡ false
apart a b h = by-test (same a b) refl
  where
    by-test : (t : Bool) → same a b ≡ t → t ≡ false
    by-test true e = absurd (h (same-equal a b e))
    by-test false e = refl

-- ---------------------------------------------------------------- the same name

module _ (text : List ℕ) where
  abbrev name : Span → List ℕ
  name w = uppers (name_of text w)

  pub swapped : (a b : Span) → same_name text a b ≡ same_name text b a
  swapped a b = same-sym (name a) (name b)

  -- a name that is the same as a stands for it
  pub same_first : (a b c : Span) → same_name text a b ≡ true → same_name text a c ≡ same_name text b c
  same_first a b c h = ap (λ (l : List ℕ). same l (name c)) (same-equal (name a) (name b) h)

  -- names with different fingerprints differ
  pub fingerprint-apart : (a b : Span) → (name_fingerprint text a ≡ name_fingerprint text b → ⊥) → same_name text a b ≡ false
  fingerprint-apart a b h = apart (name a) (name b) (λ e. h (ap fingerprint_of e))
