-- The bases after a row; the search for the base of a name, from a sibling back: what it finds is what the definition
-- finds, and a base is found until the next of its name.
-- Assumes nothing.
use Prim.Native.Nat.{ℕ, zero, suc, ◌≤◌, ◌<◌}
use mathlib.Core.Path.{◌≡◌, refl, sym, ap, ◌∙◌}
use mathlib.Core.Bool.{Bool, true, false}
use mathlib.Core.List.{List, ◌∷◌}
use native.Mathlib.Omega.{arith}
use lib.Dec.{eqb, ltb}
use borrow.Author.Tests.{lt-ltb, eq-eqb, ne_eqb}
use Rattle.definition.specs.declared.Span.{Span}
use Rattle.std.specs.Prelude.{if◌then◌else◌}
use Rattle.definition.specs.Basic.{is_given}
use Rattle.definition.specs.Fold.{Place, place_of, find, same_name, has_base}
use Rattle.rows.specs.declared.Row.{Row}
use Rattle.rows.specs.Rows.{row_in, before_in}
use Rattle.layout.specs.Targets.{seen_from, bases_at, offset_of, base_from}
use Rattle.layout.proofs.SearchLaws.{row-most, row-found, back, back_step}
use Rattle.layout.specs.Places.{entry_in}
use Rattle.layout.proofs.PlaceLaws.{seen_low, seen-out, seen-in}
use Rattle.definition.proofs.WordLaws.{never}
use Rattle.text.proofs.SameLaws.{swapped, same_first}
use Rattle.layout.specs.Shown.{bases_after, Findable}

-- the bases after row i
pub bases-after :
    (w : List Row) (i last : ℕ) → before_in w i ≡ last → last ≤ i → bases_at w (suc i) ≡ bases_after (entry_in w i) (bases_at w last)
bases-after w i last h l = go (is_given (entry_in w i).redefines) refl
  where
    before : seen_from true w i (before_in w i) ≡ bases_at w last
    before = ap (seen_from true w i) h ∙ seen_low true w i last l

    go : (b : Bool) → is_given (entry_in w i).redefines ≡ b → bases_at w (suc i) ≡ bases_after (entry_in w i) (bases_at w last)
    go true g = seen-out true w i g ∙ before ∙ ap (λ (b : Bool). if b then bases_at w last else place_of (entry_in w i) ∷ bases_at w last) (sym g)
    go false g =
        seen-in true w i g
        ∙ ap (λ (ps : List Place). place_of (entry_in w i) ∷ ps) before
        ∙ ap (λ (b : Bool). if b then bases_at w last else place_of (entry_in w i) ∷ bases_at w last) (sym g)

pub if-not : (b : Bool) {x y z : ℕ} → (x ≡ z → ⊥) → (b ≡ false → y ≡ z → ⊥) → (if b then x else y) ≡ z → ⊥
if-not true p q e = p e
if-not false p q e = q refl e

module _ (t : List ℕ) (w : List Row) where
  -- ---------------------------------------------------------------- the search

  module _ (target : Span) where
    -- it finds a base where the definition finds one
    pub base-found : (n last : ℕ) → has_base (find t target (seen_from true w n last)) ≡ ltb 0 (base_from t target w n last)
    base-found n last = ap has_base (row-found t w target true n last) ∙ go (base_from t target w n last)
      where
        go : (r : ℕ) → has_base (offset_of w r) ≡ ltb 0 r
        go zero = refl
        go (suc k) = sym (lt-ltb 0 (suc k) (omega arith))

  -- ---------------------------------------------------------------- a base that a search finds

  module _ (i k last : ℕ) (e : before_in w k ≡ last) (l : last ≤ k) where
    -- the base's own row
    pub opens : i ≡ k → is_given (row_in w k).statement.clauses.redefines ≡ false → Findable t w k (suc k)
    opens q g target =
        ap (λ (n : ℕ). eqb n (suc k)) (back_step t w target k last e l)
        ∙ ap (λ (b : Bool). eqb (if (if b then false else same_name t target (row_in w k).statement.name) then suc k else back t w target last) (suc k)) g
        ∙ go (same_name t target (row_in w k).statement.name)
      where
        go : (b : Bool) → eqb (if b then suc k else back t w target last) (suc k) ≡ b
        go true = eq-eqb (suc k) (suc k) refl
        go false = ne_eqb (back t w target last) (suc k) (λ x. omega (arith, row-most t w target true last last))

    -- a redefiner leaves it open
    pub passes : Findable t w i last → is_given (row_in w k).statement.clauses.redefines ≡ true → Findable t w i (suc k)
    passes o g target =
        ap (λ (n : ℕ). eqb n (suc i)) (back_step t w target k last e l)
        ∙ ap (λ (b : Bool). eqb (if (if b then false else same_name t target (row_in w k).statement.name) then suc k else back t w target last) (suc i)) g
        ∙ o target

    module _ (h : i < k) (o : Findable t w i last) (g : is_given (row_in w k).statement.clauses.redefines ≡ false) where
      here : (target : Span) → back t w target (suc k) ≡ (if same_name t target (row_in w k).statement.name then suc k else back t w target last)
      here target =
          back_step t w target k last e l
          ∙ ap (λ (b : Bool). if (if b then false else same_name t target (row_in w k).statement.name) then suc k else back t w target last) g

      -- and so does a base of another name
      pub differs : same_name t (row_in w i).statement.name (row_in w k).statement.name ≡ false → Findable t w i (suc k)
      differs d target = ap (λ (n : ℕ). eqb n (suc i)) (here target) ∙ go (same_name t target (row_in w k).statement.name) refl
        where
          go :
              (b : Bool) →
              same_name t target (row_in w k).statement.name ≡ b →
              eqb (if b then suc k else back t w target last) (suc i) ≡ same_name t target (row_in w i).statement.name
          go true q =
              ne_eqb (suc k) (suc i) (λ x. omega arith)
              ∙ sym (same_first t target (row_in w k).statement.name (row_in w i).statement.name q ∙ swapped t (row_in w k).statement.name (row_in w i).statement.name ∙ d)
          go false q = o target

      -- a base of its name closes it
      pub closes : same_name t (row_in w i).statement.name (row_in w k).statement.name ≡ true → (target : Span) → back t w target (suc k) ≡ suc i → ⊥
      closes d target x =
          if-not (same_name t target (row_in w k).statement.name)
          (λ q. omega arith)
          (λ b q.
          let same : same_name t target (row_in w i).statement.name ≡ true = sym (o target) ∙ eq-eqb (back t w target last) (suc i) q in
          never (sym b ∙ same_first t target (row_in w i).statement.name (row_in w k).statement.name same ∙ d))
          (sym (here target) ∙ x)
