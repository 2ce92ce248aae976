-- What the reading of a whole text into rows says.
-- Assumes nothing.
use Rattle.std.specs.Prelude.{ℕ, suc, min, ◌-◌, ◌≤◌, ◌≡◌, ◌==◌, List, [], ◌∷◌, length, take, drop, set, count_by}
use Rattle.definition.specs.declared.Statement.{Statement}
use Rattle.definition.specs.declared.TheConstants.{MOST_BYTES, MOST_STATEMENTS}
use Rattle.definition.specs.Basic.{Answer, Err, Ok}
use Rattle.definition.specs.Calls.{literal_check}
use Rattle.definition.specs.Statement.{statements}
use Rattle.definition.specs.Words.{statement_words}
use Rattle.text.specs.declared.tokens.Cursor.{Cursor}
use Rattle.text.specs.Tokens.{open_check}
use Rattle.definition.specs.Tree.{Open, opened, still_open, innermost, parents}
use Rattle.definition.specs.Usages.{inheriting, around, inherit_along}
use Rattle.rows.specs.declared.Row.{Row}
use Rattle.rows.specs.Rows.{row_of_code, new_row}
use Rattle.statement.specs.declared.tree.OpenLevels.{OpenLevels}
use Rattle.statement.specs.Levels.{stack_of, Nested}

-- how many periods a text has
abbrev pub periods : List ℕ → ℕ
periods text = count_by (λ b. b == 46) text

-- how many rows it needs at most: each of its statements but the last ends in a period, and `MOST_STATEMENTS` are kept; a longer text
-- is not read
unfoldable pub rows_needed : List ℕ → ℕ
rows_needed text = suc (min (periods (take MOST_BYTES text)) (MOST_STATEMENTS - 1))

-- what is open around a statement, and the statement as it stands there
abbrev pub outer_of : List Row → OpenLevels → Statement → List Open
outer_of w o s = still_open s.level (stack_of w o)

abbrev pub held_of : List Row → OpenLevels → Statement → Statement
held_of w o s = inheriting (around (outer_of w o s)) s

-- a statement was stored in row k of w, which is then w', and r are the levels that are open after it
pub record Added (text : List ℕ) (w : List Row) (k : ℕ) (o : OpenLevels) (s : Statement) (w' : List Row) (r : OpenLevels) : Type 0 where
  pub row : w' ≡ set w k (new_row text (held_of w o s) (row_of_code (innermost (outer_of w o s))))
  pub levels : stack_of w' r ≡ opened s.level (suc k) (held_of w o s).usage ∷ outer_of w o s
  pub nested : Nested w' (suc k) r

-- the rows of statements of a text under these parents
unfoldable pub new_rows : List ℕ → List ℕ → List Statement → List Row
new_rows text ds [] = []
new_rows text [] (s ∷ ss) = []
new_rows text (d ∷ ds) (s ∷ ss) = new_row text s (row_of_code d) ∷ new_rows text ds ss

-- the rows of kept statements, from row n on, where these are open: each with the usage that holds for it
abbrev pub rows_of : List ℕ → ℕ → List Open → List Statement → List Row
rows_of text n os ss = let held = inherit_along os n ss in new_rows text (parents os n held) held

abbrev pub rows_for : List ℕ → ℕ → List Open → Answer (List Statement) → Answer (List Row)
rows_for text n os (Err r) = Err r
rows_for text n os (Ok ss) = Ok (rows_of text n os ss)

-- the rows that an answer gives
abbrev pub rows_read : Answer ℕ → List Row → Answer (List Row)
rows_read (Ok n) w = Ok (take n w)
rows_read (Err r) w = Err r

-- they are no more than `MOST_STATEMENTS`, and there
abbrev pub Few : Answer ℕ → List Row → Type 0
Few (Ok n) w = (n ≤ MOST_STATEMENTS) × (n ≤ length w)
Few (Err r) w = Unit {0}

-- the rows behind them are as they were in w₀
abbrev pub Untouched : Answer ℕ → List Row → List Row → Type 0
Untouched (Ok n) w₀ w = drop n w ≡ drop n w₀
Untouched (Err r) w₀ w = Unit {0}

-- the answer r, and the rows w after it, which were w₀, where these are the kept statements of a text
pub record RowsOf (text : List ℕ) (w₀ : List Row) (kept : Answer (List Statement)) (r : Answer ℕ) (w : List Row) : Type 0 where
  pub is : rows_read r w ≡ rows_for text 0 [] kept
  pub few : Few r w
  pub untouched : Untouched r w₀ w

-- where the tokens of a text end says what is refused of its literals
abbrev pub EndOf : List ℕ → Answer ℕ → Cursor → Type 0
EndOf text (Ok n) end = (end.at ≤ length text) × (literal_check text ≡ open_check end)
EndOf text (Err r) end = Unit {0}

-- the same of the statements of a text, its literals aside, where the reader stands at `last` then
pub record StatementsAre (text : List ℕ) (w₀ : List Row) (r : Answer ℕ) (w : List Row) (last : Cursor) : Type 0 where
  pub rows : RowsOf text w₀ (statements text 0 (statement_words text)) r w
  pub end : EndOf text r last
