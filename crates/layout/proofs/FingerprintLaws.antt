-- Laws of the fingerprints in the rows: a row with another one is not searched for, so a search may pass over it; what
-- leaves them alone.
-- Assumes nothing.
use Prim.Native.Nat.{ℕ, zero, suc, ◌+◌, ◌-◌, ◌≤◌, ◌<◌}
use mathlib.Core.Path.{◌≡◌, refl, sym, ap, subst, ◌∙◌}
use mathlib.Core.Bool.{Bool, true, false, ◌&&◌, not}
use mathlib.Core.List.{List}
use native.Mathlib.Omega.{arith}
use Rattle.definition.specs.declared.Span.{Span}
use Rattle.definition.specs.declared.Statement.{Statement}
use Rattle.std.specs.Prelude.{if◌then◌else◌}
use Rattle.text.specs.Fingerprints.{name_fingerprint}
use Rattle.text.proofs.SameLaws.{fingerprint-apart}
use lib.Dec.{eqb}
use borrow.Author.Tests.{ne_eqb}
use Rattle.definition.proofs.Lists.{by_cases}
use Rattle.rows.specs.declared.Row.{Row}
use Rattle.rows.specs.Rows.{row_in, before_in}
use Rattle.layout.specs.Targets.{left_out, is_target, row_from, looked_from}
use Rattle.layout.specs.Fingerprints.{FingerprintedRow, Fingerprinted, PassedBack, PassedOver}
use Rattle.layout.proofs.SearchLaws.{row_here, looked-here}

-- ---------------------------------------------------------------- where they stand

module _ {t : List ℕ} {w : List Row} {n : ℕ} (h : Fingerprinted t w n) where
  -- fewer rows
  pub fingerprinted-less : {m : ℕ} → m ≤ n → Fingerprinted t w m
  fingerprinted-less l = record { rows = λ k q. h.rows k (omega arith) }

  -- the same statements and fingerprints
  pub fingerprinted-same :
      {w' : List Row} →
      ((k : ℕ) → (row_in w' k).statement ≡ (row_in w k).statement) →
      ((k : ℕ) → (row_in w' k).fingerprint ≡ (row_in w k).fingerprint) →
      Fingerprinted t w' n
  fingerprinted-same same fingerprints =
      record { rows = λ k l. fingerprints k ∙ h.rows k l ∙ ap (λ (s : Statement). name_fingerprint t s.name) (sym (same k)) }

-- ---------------------------------------------------------------- what a search passes over

module _ (w : List Row) {fingerprint last r : ℕ} where
  -- rows with other fingerprints may be passed over, whatever is left out
  pub back-over : (bases : Bool) → PassedBack w fingerprint last r → PassedOver w bases fingerprint last r
  back-over bases b =
      record {
        low = b.low;
        others = λ j l m. let o = b.others j l m in (rw (ne_eqb (row_in w j).fingerprint fingerprint o.0) refl, o.1);
      }

module _ (t : List ℕ) (w : List Row) (target : Span) (bases : Bool) {fingerprint : ℕ} (e : fingerprint ≡ name_fingerprint t target) where
  -- a row with another fingerprint
  pub not-target : (k : ℕ) → FingerprintedRow t w k → ((row_in w k).fingerprint ≡ fingerprint → ⊥) → is_target t target bases w k ≡ false
  not-target k p n =
      by-test (left_out bases w k) (fingerprint-apart t target (row_in w k).statement.name (λ q. n (p ∙ sym q ∙ sym e)))
    where
      by-test : (b : Bool) → {x : Bool} → x ≡ false → (if b then false else x) ≡ false
      by-test true q = refl
      by-test false q = q

  -- such a row, or one that is left out
  passed-by :
      (k : ℕ) →
      FingerprintedRow t w k →
      (eqb (row_in w k).fingerprint fingerprint && not (left_out bases w k)) ≡ false →
      is_target t target bases w k ≡ false
  passed-by k p h =
      by_cases (left_out bases w k)
      (λ y. rw y refl)
      (λ n. not-target k p (λ q. absurd (grind (arith, n, q, h))))

  -- what is found from `last` back is found from r back; the siblings looked at on the way are the rows between
  pub record Passed (last r : ℕ) : Type 0 where
    pub row : row_from t target bases w last last ≡ row_from t target bases w r r
    pub looked : looked_from t target bases w last last + r ≡ last + looked_from t target bases w r r

  -- a run of such rows
  run :
      (d r : ℕ) →
      ((j : ℕ) →
      r ≤ j →
      j < r + d →
      ((eqb (row_in w j).fingerprint fingerprint && not (left_out bases w j)) ≡ false) × ((row_in w j).place.gap ≡ 0)) →
      Fingerprinted t w (r + d) →
      Passed (r + d) r
  run zero r h p =
      let z : r + 0 ≡ r = omega arith in
      record {
        row = ap (λ (m : ℕ). row_from t target bases w m m) z;
        looked = omega (arith, ap (λ (m : ℕ). looked_from t target bases w m m) z);
      }
  run (suc d) r h p =
      let k = r + d in
      let other = h k (omega arith) (omega arith) in
      let next : before_in w k ≡ k = omega (arith, other.1) in
      let no = passed-by k (p.rows k (omega arith)) other.0 in
      let ih = run d r (λ j l m. h j l (omega arith)) (fingerprinted-less p (omega arith)) in
      let z : r + suc d ≡ suc k = omega arith in
      let one =
      ap (λ (m : ℕ). looked_from t target bases w m m) z
      ∙ looked-here t w target bases k
      ∙ ap (λ (b : Bool). if b then 1 else suc (looked_from t target bases w k (before_in w k))) no
      ∙ ap (λ (m : ℕ). suc (looked_from t target bases w k m)) next in
      record {
        row =
            ap (λ (m : ℕ). row_from t target bases w m m) z
            ∙ row_here t w target bases k
            ∙ ap (λ (b : Bool). if b then suc k else row_from t target bases w k (before_in w k)) no
            ∙ ap (row_from t target bases w k) next
            ∙ ih.row;
        looked = omega (arith, one, ih.looked);
      }

  pub passed-over : {last r : ℕ} → Fingerprinted t w last → PassedOver w bases fingerprint last r → Passed last r
  passed-over {last} {r} p b =
      let z : r + (last - r) ≡ last = omega (arith, b.low) in
      let x = run (last - r) r (λ j l m. b.others j l (omega arith)) (fingerprinted-less p (omega arith)) in
      subst (λ (m : ℕ). Passed m r) z x

  pub passed : {last r : ℕ} → Fingerprinted t w last → PassedBack w fingerprint last r → Passed last r
  passed p b = passed-over p (back-over w bases b)
