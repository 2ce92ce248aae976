-- `redefines::FingerprintedRows::search_back` meets its contract: what is found from k back is what is found from the last
-- sibling back, and so many siblings were looked at before.
use Prim.Native.Nat.{ℕ, ◌+◌, ◌≤◌}
use mathlib.Core.Path.{◌≡◌}
use mathlib.Core.Bool.{Bool}
use mathlib.Core.List.{List}
use Rattle.definition.specs.declared.Span.{Span}
use Rattle.rows.specs.declared.Row.{Row}
use Rattle.layout.specs.Targets.{among_bases, row_from, looked_from}
use Rattle.layout.specs.Fingerprints.{Fingerprinted}
use Rattle.layout.proofs.redefines.FingerprintedRows.search_back.Given as goal

-- the search goes on from k back, and passed so many rows that are no siblings
pub record Left (t : List ℕ) (w : List Row) (target : Span) (bases : Bool) (last k gaps : ℕ) : Type 0 where
  pub fingerprinted : Fingerprinted t w last
  pub less : gaps + k ≤ last
  pub row : row_from t target bases w last last ≡ row_from t target bases w k k
  pub looked : looked_from t target bases w last last + gaps + k ≡ last + looked_from t target bases w k k

abbrev pub invariant-loop-row : goal.invariant-loop-row
invariant-loop-row l = Left l.self.text.now l.self.rows.all.now l.target (among_bases l.among) l.last l.k l.gaps

abbrev pub decreases-loop-row : goal.decreases-loop-row
decreases-loop-row l = l.k
