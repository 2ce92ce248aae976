use Prim.Native.Nat.{ℕ, suc, ◌+◌, ◌-◌, ◌≤◌}
use mathlib.Core.Path.{◌≡◌, sym, ap, ◌∙◌}
use mathlib.Core.Bool.{Bool, true, false}
use mathlib.Core.List.{List}
use native.Mathlib.Omega.{arith}
use Rattle.definition.specs.declared.Span.{Span}
use Rattle.std.specs.Prelude.{if◌then◌else◌, None, Some}
use Rattle.text.specs.Fingerprints.{name_fingerprint}
use Rattle.rows.specs.declared.Row.{Row}
use Rattle.rows.specs.Rows.{row_of_code, before_in}
use Rattle.rows.proofs.RowLaws.{row-back}
use Rattle.layout.specs.Targets.{is_target, row_from, looked_from, Ended}
use Rattle.layout.specs.Fingerprints.{Fingerprinted, PassedOver}
use Rattle.layout.proofs.SearchLaws.{row_low, row_here, looked-low, looked-here}
use Rattle.layout.proofs.FingerprintLaws.{fingerprinted-less, passed-over}
use Rattle.layout.proofs.redefines.FingerprintedRows.search_back.Invariants.{Left}
use Rattle.layout.proofs.redefines.FingerprintedRows.search_back.Goals as goal

start :
    {t : List ℕ} {w : List Row} {target : Span} {bases : Bool} {last fingerprint k : ℕ} →
    Fingerprinted t w last →
    fingerprint ≡ name_fingerprint t target →
    PassedOver w bases fingerprint last k →
    Left t w target bases last k 0
start {t} {w} {target} {bases} p e b =
    let x = passed-over t w target bases e p b in
    record { fingerprinted = p; less = omega (arith, b.low); row = x.row; looked = omega (arith, x.looked) }

module _ {t : List ℕ} {w : List Row} {target : Span} {bases : Bool} {last k gaps : ℕ} (inv : Left t w target bases last k gaps) where
  -- the row before k
  module _ {here : ℕ} (same : k ≡ suc here) where
    -- what is found and looked at from the sibling before that row back
    abbrev row_back : ℕ
    row_back = row_from t target bases w here (before_in w here)

    abbrev looked_back : ℕ
    looked_back = looked_from t target bases w here (before_in w here)

    row-there :
        {b : Bool} →
        is_target t target bases w here ≡ b →
        row_from t target bases w last last ≡ (if b then suc here else row_back)
    row-there e =
        inv.row
        ∙ ap (λ (x : ℕ). row_from t target bases w x x) same
        ∙ row_here t w target bases here
        ∙ ap (λ (b : Bool). if b then suc here else row_back) e

    looked-there :
        {b : Bool} →
        is_target t target bases w here ≡ b →
        looked_from t target bases w last last + gaps + k ≡ last + (if b then 1 else suc looked_back)
    looked-there e =
        inv.looked
        ∙ ap (λ (x : ℕ). last + looked_from t target bases w x x) same
        ∙ ap (λ (n : ℕ). last + n)
        (looked-here t w target bases here ∙ ap (λ (b : Bool). if b then 1 else suc looked_back) e)

    module _ {o : Bool} (p : o ≡ is_target t target bases w (here)) where
      found : o ≡ true → Ended t target bases w last (record { row = Some (here); compared = last - (here) - gaps })
      found e =
          record {
            row = sym (ap row_of_code (row-there (sym p ∙ e)) ∙ row-back here);
            looked = omega (arith, same, inv.less, looked-there (sym p ∙ e));
          }

      module _ (e : o ≡ false) {n : ℕ} (q : n ≡ (before_in w (here))) where
        next :
            n ≤ here →
            {fingerprint r : ℕ} →
            fingerprint ≡ name_fingerprint t target →
            PassedOver w bases fingerprint n r →
            Left t w target bases last r (gaps + (here - n))
        next l z b =
            let x = passed-over t w target bases z (fingerprinted-less inv.fingerprinted (omega (arith, same, inv.less))) b in
            record {
              fingerprinted = inv.fingerprinted;
              less = omega (arith, same, inv.less, b.low);
              row =
                  row-there (sym p ∙ e)
                  ∙ ap (row_from t target bases w here) (sym q)
                  ∙ row_low t w target bases here n l
                  ∙ x.row;
              looked =
                  omega (
                    arith,
                    same,
                    inv.less,
                    b.low,
                    looked-there (sym p ∙ e),
                    ap (looked_from t target bases w here) q,
                    looked-low t w target bases here n l,
                    x.looked,
                  );
            }

  done : (1 ≤ k → ⊥) → Ended t target bases w last (record { row = None; compared = last - gaps })
  unfolding row_from looked_from
  done none =
      let e : k ≡ 0 = omega (arith, none) in
      record {
        row = sym (ap row_of_code (inv.row ∙ ap (λ (x : ℕ). row_from t target bases w x x) e));
        looked = omega (arith, inv.less, inv.looked, ap (λ (x : ℕ). looked_from t target bases w x x) e);
      }

pub loop-row-init : goal.loop-row-init
loop-row-init c =
    start (fingerprinted-less c.args.self.fingerprinted c.requires) c.fingerprint_of-fingerprint.ensures c.pass_back-k.ensures.over

-- the row before k, by `checked_sub`
the-row : {k row : ℕ} → (1 ≤ k) × (row ≡ k - 1) → k ≡ suc row
the-row h = omega (arith, h.0, h.1)

pub is_target-requires : goal.is_target-requires
is_target-requires c =
    let same = the-row c.in-Some.ensures in
    (omega (arith, same, c.loop-row.invariant.less, c.requires), c.fingerprint_of-fingerprint.ensures)

pub returns-then-is_target : goal.returns-then-is_target
returns-then-is_target c =
    found c.loop-row.invariant (the-row c.in-Some.ensures) c.is_target.ensures c.if-is_target.true

pub loop-row-preserved : goal.loop-row-preserved
loop-row-preserved c =
    next c.loop-row.invariant (the-row c.in-Some.ensures) c.is_target.ensures c.if-is_target.false
    c.siblings_end-before.ensures.0 c.siblings_end-before.ensures.1 c.fingerprint_of-fingerprint.ensures c.pass_back-k-in-Some.ensures.over

pub returns : goal.returns
returns c = done c.loop-row.invariant c.in_default.ensures
