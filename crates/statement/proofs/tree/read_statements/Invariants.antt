-- `tree::read_statements` meets its contract. The loop's invariant: the statements that are left, from the next row on
-- and with the levels that are open, lead to what all statements lead to from row 0 on.
use Prim.Native.Nat.{ℕ, suc, ◌+◌, ◌-◌, ◌≤◌}
use mathlib.Core.Path.{◌≡◌}
use mathlib.Core.List.{List, []}
use lib.ListN.{length, take, drop}
use Rattle.definition.specs.declared.Statement.{Statement}
use Rattle.definition.specs.declared.TheConstants.{MOST_BYTES, MOST_STATEMENTS}
use Rattle.definition.specs.Basic.{Answer}
use Rattle.definition.specs.Statement.{statements}
use Rattle.definition.specs.Words.{tokens_of, first_open, sentences, statement_words}
use Rattle.text.specs.declared.tokens.Cursor.{Cursor}
use Rattle.text.specs.Tokens.{tokens_at}
use Rattle.statement.specs.declared.tree.OpenLevels.{OpenLevels}
use Rattle.statement.specs.Levels.{stack_of, Nested}
use Rattle.statement.specs.TreeReading.{periods, rows_needed, rows_for}
use Rattle.statement.proofs.ReadingLaws.{behind}
use Rattle.rows.specs.declared.Row.{Row}
use Rattle.statement.proofs.tree.read_statements.Given as goal

-- all kept statements, and those of the tokens from where the reader stands, where n are kept already
abbrev pub whole : List ℕ → Answer (List Statement)
whole t = statements t 0 (statement_words t)

abbrev pub rest : List ℕ → Cursor → ℕ → Answer (List Statement)
rest t from n = statements t n (sentences (tokens_at t from))

-- n statements were stored in the rows w, which were w₀
pub record Left (t : List ℕ) (w₀ w : List Row) (from : Cursor) (n : ℕ) (o : OpenLevels) : Type 0 where
  pub within : from.at ≤ length t
  pub short : length t ≤ MOST_BYTES
  pub room : rows_needed t ≤ length w
  pub left : n + length (sentences (tokens_at t from)) ≤ suc (periods (take MOST_BYTES t))
  pub few : n ≤ MOST_STATEMENTS
  pub untouched : drop n w ≡ drop n w₀
  pub nested : Nested w n o
  pub opens : first_open (tokens_of t) ≡ first_open (tokens_at t from)
  pub same : rows_for t 0 [] (whole t) ≡ behind (take n w) (rows_for t n (stack_of w o) (rest t from n))

abbrev pub invariant-loop-s : goal.invariant-loop-s
invariant-loop-s l = Left l.text l.initial.rows l.rows l.from l.n l.levels

abbrev pub decreases-loop-s : goal.decreases-loop-s
decreases-loop-s l = length l.text - l.from.at
