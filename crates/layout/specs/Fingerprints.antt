-- The fingerprints of the names in the rows: that each is its name's, and what a search may pass over by them.
-- Assumes nothing.
use Rattle.std.specs.Prelude.{ℕ, ◌≤◌, ◌<◌, ◌≡◌, Bool, false, ◌&&◌, not, eqb, List}
use Rattle.text.specs.Fingerprints.{name_fingerprint}
use Rattle.rows.specs.declared.Row.{Row}
use Rattle.rows.specs.Rows.{row_in}
use Rattle.layout.specs.Targets.{left_out}

-- row k has the fingerprint of its name
abbrev pub FingerprintedRow : List ℕ → List Row → ℕ → Type 0
FingerprintedRow text w k = (row_in w k).fingerprint ≡ name_fingerprint text (row_in w k).statement.name

-- each of the first n rows has
pub record Fingerprinted (text : List ℕ) (w : List Row) (n : ℕ) : Type 0 where
  pub rows : (k : ℕ) → k < n → FingerprintedRow text w k

-- the rows from r up to `last` have other fingerprints, and the row before each is its sibling
pub record PassedBack (w : List Row) (fingerprint last r : ℕ) : Type 0 where
  pub low : r ≤ last
  pub others : (j : ℕ) → r ≤ j → j < last → ((row_in w j).fingerprint ≡ fingerprint → ⊥) × ((row_in w j).place.gap ≡ 0)

-- or they are left out, as a search for bases leaves redefiners out
pub record PassedOver (w : List Row) (bases : Bool) (fingerprint last r : ℕ) : Type 0 where
  pub low : r ≤ last
  pub others :
      (j : ℕ) →
      r ≤ j →
      j < last →
      (eqb (row_in w j).fingerprint fingerprint && not (left_out bases w j) ≡ false) × ((row_in w j).place.gap ≡ 0)
