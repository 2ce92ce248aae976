-- `statement::read_clauses` meets its contract. The loop's invariant: the clauses are those of the words from `cursor`
-- on, with what was read before, and what was read fits.
use Prim.Native.Nat.{ℕ, ◌-◌}
use mathlib.Core.Path.{◌≡◌}
use mathlib.Core.List.{List}
use lib.ListN.{length}
use Rattle.definition.specs.declared.Clauses.{Clauses}
use Rattle.definition.specs.declared.ParseState.{ParseState}
use Rattle.definition.specs.Statement.{no_clauses, clauses}
use Rattle.text.specs.Tokens.{words_from}
use Rattle.text.specs.declared.tokens.Cursor.{Cursor}
use Rattle.statement.specs.Places.{Fits}
use Rattle.text.proofs.EndLaws.{Reached}
use Rattle.statement.proofs.read_clauses.Given as goal

-- the clauses are those of the words from `cursor` on, after what was read
pub record Left (t : List ℕ) (at : ℕ) (from cursor : Cursor) (e : ParseState) (c : Clauses) : Type 0 where
  pub reached : Reached t from cursor
  pub same : clauses t at ParseState.Clause no_clauses (words_from t from) ≡ clauses t at e c (words_from t cursor)
  pub fits : Fits t c

abbrev pub invariant-loop-w : goal.invariant-loop-w
invariant-loop-w l = Left l.text l.at l.fn.cursor l.cursor l.e l.c

abbrev pub decreases-loop-w : goal.decreases-loop-w
decreases-loop-w l = length l.text - l.cursor.at
