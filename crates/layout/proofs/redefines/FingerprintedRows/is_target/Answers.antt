-- `redefines::FingerprintedRows::is_target` meets its contract: a row with another fingerprint is none.
use Prim.Native.Nat.{ℕ}
use mathlib.Core.Path.{◌≡◌, sym, ap, ◌∙◌}
use mathlib.Core.Bool.{Bool, false}
use mathlib.Core.List.{List}
use Rattle.definition.specs.declared.Span.{Span}
use Rattle.text.specs.Fingerprints.{name_fingerprint}
use Rattle.rows.specs.declared.Row.{Row}
use Rattle.rows.specs.Rows.{row_in}
use Rattle.layout.specs.Targets.{among_bases, is_target}
use Rattle.layout.specs.Fingerprints.{FingerprintedRow}
use Rattle.layout.proofs.FingerprintLaws.{not-target}
use Rattle.layout.proofs.redefines.FingerprintedRows.is_target.Goals as goal

other :
    (t : List ℕ) (w : List Row) (target : Span) (bases : Bool) (k : ℕ) {fingerprint : ℕ} →
    FingerprintedRow t w k →
    fingerprint ≡ name_fingerprint t target →
    {n : ℕ} →
    n ≡ (row_in w k).fingerprint →
    (n ≡ fingerprint → ⊥) →
    false ≡ is_target t target bases w k
other t w target bases k p e q n = sym (not-target t w target bases e k p (λ z. n (q ∙ z)))

pub returns-then-row-fingerprint : goal.returns-then-row-fingerprint
returns-then-row-fingerprint c =
    let a = c.args in
    other a.self.text.now a.self.rows.all.now a.target (among_bases a.among) a.k (a.self.fingerprinted.rows a.k c.requires.0) c.requires.1
    (ap (λ (r : Row). r.fingerprint) c.row.ensures) c.if-row-fingerprint.true
