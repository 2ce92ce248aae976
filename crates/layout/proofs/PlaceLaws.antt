-- Laws of the places in the rows: what a place leaves alone, and how it is read back; the earlier siblings.
-- Assumes nothing.
use Rattle.std.specs.Prelude.{Option, None}
use Prim.Native.Nat.{ℕ, zero, suc, ◌+◌, ◌-◌, ◌≤◌, ◌<◌}
use mathlib.Core.Path.{◌≡◌, refl, ap, subst, ◌∙◌}
use mathlib.Core.Bool.{Bool, true, false}
use mathlib.Core.List.{List, ◌∷◌}
use mathlib.Core.Logic.{⊎_elim}
use native.Mathlib.Omega.{arith}
use lib.ListN.{length, length-set}
use lib.Seq.{get_or-set_other, get_or-set_same}
use borrow.Author.Tests.{eq-eqb, ne_eqb}
use Rattle.definition.specs.declared.Statement.{Statement}
use Rattle.definition.specs.declared.Entry.{Entry}
use Rattle.definition.specs.Fold.{Entries, end, entry}
use Rattle.definition.specs.Search.{entries#}
use Rattle.definition.proofs.Lists.{order}
use Rattle.rows.specs.declared.Row.{Row}
use Rattle.rows.specs.Rows.{row_in, before_in, statement_at, statements_from}
use Rattle.rows.proofs.RowLaws.{set_keeps, statements-same}
use Rattle.layout.specs.Places.{known, placed_in, put_place, put_places}
use Rattle.layout.specs.Targets.{place_at, left_out, seen_from}
use Rattle.layout.specs.Fingerprints.{Fingerprinted}
use Rattle.layout.proofs.FingerprintLaws.{fingerprinted-same}

-- as many rows back as stand between
pub back_by : (k last : ℕ) → last ≤ k → k - (k - last) ≡ last
back_by k last h = omega arith

module _ (t : List ℕ) where
  -- ---------------------------------------------------------------- one place

  -- the other rows, and what was known of each before
  pub place-other : (w : List Row) (a last : ℕ) (e : Entry) (k : ℕ) → (k ≡ a → ⊥) → row_in (put_place t w a last e) k ≡ row_in w k
  place-other w a last e k n = get_or-set_other w a k (placed_in t w a last e) _ n

  pub known-place : (w : List Row) (a last : ℕ) (e : Entry) (k : ℕ) → known (row_in (put_place t w a last e) k) ≡ known (row_in w k)
  known-place w a last e k = set_keeps known w a k refl

  -- ---------------------------------------------------------------- the places of a list

  -- the rows with the members' places, and with the first entry's too
  abbrev pub members_put : List Row → ℕ → Entries → List Row
  members_put w a members = put_places t w (suc a) 0 members

  abbrev pub first_put : List Row → ℕ → ℕ → Entry → Entries → List Row
  first_put w a last e members = put_place t (members_put w a members) a last e

  pub length-places : (es : Entries) (w : List Row) (a last : ℕ) → length (put_places t w a last es) ≡ length w
  unfolding put_places
  length-places end w a last = refl
  length-places (entry e members later) w a last =
      length-places later (first_put w a last e members) (suc a + entries# members) (suc a)
      ∙ length-set (members_put w a members) a (placed_in t (members_put w a members) a last e)
      ∙ length-places members w (suc a) 0

  -- what is known of each row is as it was
  pub known-places : (es : Entries) (w : List Row) (a last k : ℕ) → known (row_in (put_places t w a last es) k) ≡ known (row_in w k)
  unfolding put_places
  known-places end w a last k = refl
  known-places (entry e members later) w a last k =
      known-places later (first_put w a last e members) (suc a + entries# members) (suc a) k
      ∙ known-place (members_put w a members) a last e k
      ∙ known-places members w (suc a) 0 k

  -- and so is every row before
  pub before-places : (es : Entries) (w : List Row) (a last k : ℕ) → k < a → row_in (put_places t w a last es) k ≡ row_in w k
  unfolding put_places
  before-places end w a last k h = refl
  before-places (entry e members later) w a last k h =
      before-places later (first_put w a last e members) (suc a + entries# members) (suc a) k (omega arith)
      ∙ place-other (members_put w a members) a last e k (λ z. omega arith)
      ∙ before-places members w (suc a) 0 k (omega arith)

  module _ (es : Entries) (w : List Row) (a last : ℕ) where
    pub statement-places : (k : ℕ) → statement_at (put_places t w a last es) k ≡ statement_at w k
    statement-places k = ap (λ (x : Statement × ℕ × ℕ × Option ℕ). x.0) (known-places es w a last k)

    pub statements-places : (k n : ℕ) → statements_from (put_places t w a last es) k n ≡ statements_from w k n
    statements-places = statements-same (put_places t w a last es) w statement-places

    pub fingerprinted-places : {n : ℕ} → Fingerprinted t w n → Fingerprinted t (put_places t w a last es) n
    fingerprinted-places h = fingerprinted-same h statement-places (λ k. ap (λ (x : Statement × ℕ × ℕ × Option ℕ). x.2) (known-places es w a last k))

  -- the first place of a list is read back
  module _ (e : Entry) (members later : Entries) (w : List Row) (a last : ℕ) (fits : a < length w) where
    pub first_place :
        row_in (put_places t w a last (entry e members later)) a ≡ placed_in t (members_put w a members) a last e
    unfolding put_places
    first_place =
        before-places later (first_put w a last e members) (suc a + entries# members) (suc a) a (omega arith)
        ∙ get_or-set_same (members_put w a members) a _ _ (omega (arith, length-places members w (suc a) 0))

  -- no row names a next one of its union
  pub places-next :
      (es : Entries) (w : List Row) (a last : ℕ) →
      a + entries# es ≤ length w →
      (k : ℕ) →
      a ≤ k →
      k < a + entries# es →
      (row_in (put_places t w a last es) k).place.next ≡ None
  unfolding put_places
  places-next end w a last fits k l h = absurd (omega arith)
  places-next (entry e members later) w a last fits k l h =
      let w₁ = members_put w a members in
      let w₂ = first_put w a last e members in
      let n = suc a + entries# members in
      let l₁ = length-places members w (suc a) 0 in
      let l₂ = length-set w₁ a (placed_in t w₁ a last e) in
      let inner = places-next members w (suc a) 0 (omega arith) k in
      let rest = places-next later w₂ n (suc a) (omega (arith, l₁, l₂)) k in
      ⊎_elim
      (λ (p : a < k).
      ⊎_elim
      (λ (q : k < n).
      ap (λ (r : Row). r.place.next) (before-places later w₂ n (suc a) k q ∙ place-other w₁ a last e k (λ z. omega arith))
      ∙ inner p q)
      (λ (q : n ≤ k). rest q (omega arith))
      (order k n))
      (λ (p : k ≤ a).
      subst (λ (m : ℕ). (row_in (put_places t w a last (entry e members later)) m).place.next ≡ None) (let z : a ≡ k = omega arith in z)
      (ap (λ (r : Row). r.place.next) (first_place e members later w a last (omega arith))))
      (order a k)

-- ---------------------------------------------------------------- the earlier siblings

module _ (bases : Bool) (w : List Row) where
  seen_skip : (k last : ℕ) → (last ≡ suc k → ⊥) → seen_from bases w (suc k) last ≡ seen_from bases w k last
  unfolding seen_from
  seen_skip k last h = rw (ne_eqb last (suc k) h, seen_from)

  -- rows after the last sibling do not count
  pub seen_low : (n last : ℕ) → last ≤ n → seen_from bases w n last ≡ seen_from bases w last last
  seen_low zero last h = ap (λ (m : ℕ). seen_from bases w m last) (let e : 0 ≡ last = omega arith in e)
  seen_low (suc k) last h =
      let ih = seen_low k last in
      ⊎_elim
      (λ (l : last < suc k). seen_skip k last (λ e. omega arith) ∙ ih (omega arith))
      (λ (l : suc k ≤ last). ap (λ (m : ℕ). seen_from bases w m last) (let e : suc k ≡ last = omega arith in e))
      (order last (suc k))

  -- the latest sibling, and those before it
  module _ (k : ℕ) where
    pub seen-out : left_out bases w k ≡ true → seen_from bases w (suc k) (suc k) ≡ seen_from bases w k (before_in w k)
    unfolding seen_from
    seen-out h = rw (h, eq-eqb (suc k) (suc k) refl, seen_from)

    pub seen-in : left_out bases w k ≡ false → seen_from bases w (suc k) (suc k) ≡ place_at w k ∷ seen_from bases w k (before_in w k)
    unfolding seen_from
    seen-in h = rw (h, eq-eqb (suc k) (suc k) refl, seen_from)

-- they are read from the rows before
pub seen_same :
    (bases : Bool) (w w' : List Row) (n last : ℕ) →
    ((k : ℕ) → k < n → row_in w k ≡ row_in w' k) →
    seen_from bases w n last ≡ seen_from bases w' n last
unfolding seen_from
seen_same bases w w' zero last h = refl
seen_same bases w w' (suc k) last h =
    let back = seen_same bases w w' k (before_in w k) (λ j l. h j (omega arith)) in
    let on = seen_same bases w w' k last (λ j l. h j (omega arith)) in
    cc (h k (omega arith), back, on)
