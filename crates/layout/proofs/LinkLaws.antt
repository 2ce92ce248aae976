-- The pass that links the rows of each union, from the last row back: a base names the first of its redefiners so far.
-- Assumes nothing.
use Prim.Native.Nat.{ℕ, suc, ◌-◌, ◌≤◌, ◌<◌}
use mathlib.Core.Path.{◌≡◌, refl, sym, ap, subst, ◌∙◌}
use mathlib.Core.Bool.{Bool}
use mathlib.Core.List.{List}
use mathlib.Core.Logic.{⊎_elim}
use native.Mathlib.Omega.{arith}
use lib.ListN.{length}
use borrow.Author.Tests.{lt-ltb, le-ltb, eq-eqb, ne_eqb}
use Rattle.std.specs.Prelude.{if◌then◌else◌, Option, None, Some}
use Rattle.definition.proofs.Lists.{order}
use Rattle.definition.specs.declared.TheConstants.{MOST_STATEMENTS}
use Rattle.rows.specs.declared.Row.{Row}
use Rattle.rows.specs.Rows.{row_code, row_in}
use Rattle.layout.specs.Shown.{union_of}
use Rattle.layout.specs.Marks.{set_next, link_to, link_row, first_from, RowsKept, Unlinked, UnionsLinked}
use Rattle.layout.proofs.KeptLaws.{kept_self, kept_on, kept_set, set_other, set_own}

-- what the loop keeps: the rows from k on are linked, and an earlier base names the first of them that names it
pub record Linking (w : List Row) (from to k : ℕ) (now : List Row) : Type 0 where
  pub start : Unlinked w from to
  pub high : k ≤ to
  pub kept : RowsKept w now
  pub opened : (i : ℕ) → from ≤ i → i < k → row_code (row_in w i).place.base ≡ 0 → row_code (row_in now i).place.next ≡ first_from w (suc i) k (to - k)
  pub done : (i : ℕ) → from ≤ i → k ≤ i → i < to → row_code (row_in now i).place.next ≡ first_from w (union_of w i) (suc i) (to - suc i)

pub linking-starts : (w : List Row) (from to : ℕ) → Unlinked w from to → Linking w from to to w
unfolding first_from
linking-starts w from to h =
    record {
      start = h;
      high = omega arith;
      kept = kept_self w;
      opened = λ i l u e. h.nexts i l u ∙ ap (first_from w (suc i) to) (let z : 0 ≡ to - to = omega arith in z);
      done = λ i l u v. absurd (omega arith);
    }

-- ---------------------------------------------------------------- one row

module _ (w : List Row) (u m to : ℕ) (h : m < to) where
  first-here : row_code (row_in w m).place.base ≡ u → first_from w u m (to - m) ≡ suc m
  unfolding first_from
  first-here e =
      ap (first_from w u m) (let z : to - m ≡ suc (to - suc m) = omega arith in z)
      ∙ ap (λ (b : Bool). if b then suc m else first_from w u (suc m) (to - suc m)) (eq-eqb (row_code (row_in w m).place.base) u e)

  first_past : (row_code (row_in w m).place.base ≡ u → ⊥) → first_from w u m (to - m) ≡ first_from w u (suc m) (to - suc m)
  unfolding first_from
  first_past e =
      ap (first_from w u m) (let z : to - m ≡ suc (to - suc m) = omega arith in z)
      ∙ ap (λ (b : Bool). if b then suc m else first_from w u (suc m) (to - suc m)) (ne_eqb (row_code (row_in w m).place.base) u e)

-- the row before k
module _ {w : List Row} {from to m : ℕ} {now : List Row} (inv : Linking w from to (suc m) now) (low : from ≤ m) where
  within : m < to
  within = omega (arith, inv.high)

  room : m < length now
  room = omega (arith, inv.start.fits, inv.kept.long, within)

  -- it has none
  unbased : row_code (row_in w m).place.base ≤ 0 → Linking w from to m now
  unbased p =
      record {
        start = inv.start;
        high = omega (arith, inv.high);
        kept = inv.kept;
        opened = λ i l u e. inv.opened i l (omega arith) e ∙ sym (first_past w (suc i) m to (omega (arith, inv.high)) (λ x. omega arith));
        done =
            λ i l u v.
            ⊎_elim
            (λ (x : m < i). inv.done i l x v)
            (λ (x : i ≤ m).
            subst (λ (n : ℕ). row_code (row_in now n).place.next ≡ first_from w (union_of w n) (suc n) (to - suc n)) (let e : m ≡ i = omega arith in e)
            (inv.opened m low (omega arith) (omega arith)
            ∙ ap (λ (y : ℕ). first_from w y (suc m) (to - suc m)) (sym (ap (λ (y : Bool). if y then row_code (row_in w m).place.base else suc m) (le-ltb 0 (row_code (row_in w m).place.base) p)))))
            (order m i);
      }

  -- it names a base: it comes before what the base names
  module _ (row : ℕ) (e : row_code (row_in w m).place.base ≡ suc row) where
    abbrev w₁ : List Row
    w₁ = set_next now m (row_in now row).place.next

    abbrev w₂ : List Row
    w₂ = set_next w₁ row (Some m)

    before : row < m
    before = omega (arith, inv.start.back m low within)

    based-start : (from ≤ row) × (row_code (row_in w row).place.base ≡ 0)
    based-start =
        let x = inv.start.bases m low within (omega arith) in
        (omega (arith, x.0), subst (λ (n : ℕ). row_code (row_in w n).place.base ≡ 0) (let z : row_code (row_in w m).place.base - 1 ≡ row = omega arith in z) x.1)

    others : (i : ℕ) → (i ≡ row → ⊥) → (i ≡ m → ⊥) → row_code (row_in w₂ i).place.next ≡ row_code (row_in now i).place.next
    others i p q = set_other w₁ row (Some m) i p ∙ set_other now m (row_in now row).place.next i q

    base-names : row_code (row_in w₂ row).place.next ≡ suc m
    base-names = set_own w₁ row (Some m) (omega (arith, (kept_set now m (row_in now row).place.next).long, room, before))

    own-names : row_code (row_in w₂ m).place.next ≡ first_from w (suc row) (suc m) (to - suc m)
    own-names =
        set_other w₁ row (Some m) m (λ x. omega (arith, before))
        ∙ set_own now m (row_in now row).place.next room
        ∙ inv.opened row based-start.0 (omega (arith, before)) based-start.1

    based : Linking w from to m w₂
    based =
        record {
          start = inv.start;
          high = omega (arith, inv.high);
          kept = kept_on inv.kept (kept_on (kept_set now m (row_in now row).place.next) (kept_set w₁ row (Some m)));
          opened =
              λ i l u z.
              by_row i u
              (λ (x : row ≡ i). subst (λ (n : ℕ). row_code (row_in w₂ n).place.next ≡ first_from w (suc n) m (to - m)) x (base-names ∙ sym (first-here w (suc row) m to within e)))
              (λ (x : row ≡ i → ⊥).
              others i (λ y. x (sym y)) (λ y. omega arith)
              ∙ inv.opened i l (omega arith) z
              ∙ sym (first_past w (suc i) m to within (λ y. x (omega arith))));
          done =
              λ i l u v.
              ⊎_elim
              (λ (x : m < i). others i (λ y. omega (arith, before)) (λ y. omega arith) ∙ inv.done i l x v)
              (λ (x : i ≤ m).
              subst (λ (n : ℕ). row_code (row_in w₂ n).place.next ≡ first_from w (union_of w n) (suc n) (to - suc n)) (let z : m ≡ i = omega arith in z)
              (own-names ∙ ap (λ (y : ℕ). first_from w y (suc m) (to - suc m)) (sym (ap (λ (y : Bool). if y then row_code (row_in w m).place.base else suc m) (lt-ltb 0 (row_code (row_in w m).place.base) (omega arith)) ∙ e))))
              (order m i);
        }
      where
        by_row : {A : Type 0} (i : ℕ) → i < m → (row ≡ i → A) → ((row ≡ i → ⊥) → A) → A
        by_row i u f g =
            ⊎_elim
            (λ (x : row < i). g (λ y. omega arith))
            (λ (x : i ≤ row). ⊎_elim (λ (y : i < row). g (λ z. omega arith)) (λ (y : row ≤ i). f (omega arith)) (order i row))
            (order row i)

  -- one or the other
  same_base : row_code (row_in now m).place.base ≡ row_code (row_in w m).place.base
  same_base = ap (λ (r : Row). row_code r.place.base) (inv.kept.same m)

  linked : Linking w from to m (link_row now m)
  linked = by_base (row_in now m).place.base refl
    where
      by_base : (o : Option ℕ) → (row_in now m).place.base ≡ o → Linking w from to m (link_to now m o)
      by_base None e = unbased (omega (arith, ap row_code e, same_base))
      by_base (Some row) e = based row (sym same_base ∙ ap row_code e)

-- ---------------------------------------------------------------- the loop

module _ {w : List Row} {from to k : ℕ} {now : List Row} (inv : Linking w from to k now) where
  pub linking-ends : k ≤ from → UnionsLinked w from to now
  linking-ends h = record { kept = inv.kept; nexts = λ i l u. inv.done i l (omega arith) u }

  module _ (h : from < k) where
    at_row : Linking w from to (suc (k - 1)) now
    at_row = subst (λ (n : ℕ). Linking w from to n now) (let e : k ≡ suc (k - 1) = omega arith in e) inv

    pub linking-row : (k - 1 < length now) × (row_code (row_in now (k - 1)).place.base ≤ k - 1) × (k - 1 < MOST_STATEMENTS)
    linking-row =
        let low : from ≤ k - 1 = omega arith in
        (room at_row low, omega (arith, same_base at_row low, inv.start.back (k - 1) low (within at_row low)), omega (arith, inv.start.few, inv.high))

    pub linking-on : {w' : List Row} → w' ≡ link_row now (k - 1) → Linking w from to (k - 1) w'
    linking-on e = subst (Linking w from to (k - 1)) (sym e) (linked at_row (omega arith))
