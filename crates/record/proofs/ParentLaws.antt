-- The rows that were read name their parents in the forest.
-- Assumes nothing.
use Prim.Native.Nat.{ℕ, suc, ◌+◌, ◌<◌}
use mathlib.Core.Path.{◌≡◌, refl, sym, ap, ◌∙◌}
use mathlib.Core.List.{List, ◌++◌}
use native.Mathlib.Omega.{arith}
use lib.ListN.{length, get_or, length-append, get_or-append}
use Rattle.std.proofs.lemmas.List.{get_or-append-add}
use Rattle.definition.specs.Tree.{Forest, leaf, item, parents_in}
use Rattle.definition.specs.Owner.{size}
use Rattle.rows.specs.declared.Row.{Row}
use Rattle.rows.specs.Rows.{row_in, row_code}
use Rattle.record.specs.Laying.{Under}

length-in : (f : Forest) (p k : ℕ) → length (parents_in p k f) ≡ size f
unfolding parents_in
length-in leaf p k = refl
length-in (item s kids later) p k =
    let inner = parents_in (suc k) (suc k) kids in
    let rest = parents_in p (suc k + length inner) later in
    omega (arith, length-append inner rest, length-in kids (suc k) (suc k), length-in later p (suc k + length inner))

pub under-by :
    (w : List Row) (f : Forest) (p k : ℕ) →
    ((j : ℕ) → j < size f → get_or (parents_in p k f) j 0 ≡ row_code (row_in w (k + j)).parent) →
    Under w p k f
unfolding parents_in
under-by w leaf p k h = tt
under-by w (item s kids later) p k h =
    let inner = parents_in (suc k) (suc k) kids in
    let rest = parents_in p (suc k + length inner) later in
    let many = length-in kids (suc k) (suc k) in
    let at : suc k + length inner ≡ suc k + size kids = omega (arith, many) in (
      sym (h 0 (omega arith) ∙ ap (λ (m : ℕ). row_code (row_in w m).parent) (let e : k + 0 ≡ k = omega arith in e)),
      under-by w kids (suc k) (suc k)
          (λ j l.
          sym (get_or-append inner rest 0 j (omega (arith, many)))
          ∙ h (suc j) (omega arith)
          ∙ ap (λ (m : ℕ). row_code (row_in w m).parent) (let e : k + suc j ≡ suc k + j = omega arith in e)),
      under-by w later p (suc k + size kids)
          (λ j l.
          ap (λ (n : ℕ). get_or (parents_in p n later) j 0) (sym at)
          ∙ sym (get_or-append-add inner rest j 0)
          ∙ ap (λ (n : ℕ). get_or (inner ++ rest) (n + j) 0) many
          ∙ h (suc (size kids + j)) (omega arith)
          ∙ ap (λ (m : ℕ). row_code (row_in w m).parent)
          (let e : k + suc (size kids + j) ≡ suc k + size kids + j = omega arith in e)),
    )

-- where the rows name the same
pub under_same :
    (w w' : List Row) → ((k : ℕ) → row_code (row_in w k).parent ≡ row_code (row_in w' k).parent) → (f : Forest) (p k : ℕ) → Under w p k f →
    Under w' p k f
under_same w w' h leaf p k u = tt
under_same w w' h (item s kids later) p k u = (
  sym (h k)
      ∙ u.0,
  under_same w w' h kids (suc k) (suc k) u.1,
  under_same w w' h later p (suc k + size kids) u.2,
)
