-- Laws of the checks of what a caller lends: the statements that are read after them.
-- Assumes nothing.
use Rattle.rows.specs.declared.Row.{Row}
use Prim.Native.Nat.{ℕ}
use mathlib.Core.Path.{◌≡◌, ◌∙◌}
use mathlib.Core.List.{List}
use Rattle.definition.specs.declared.Refusal.{Refusal}
use Rattle.definition.specs.Basic.{Err, and_then}
use Rattle.definition.specs.Calls.{entry_checks, kept_statements, record_tree}
use Rattle.definition.proofs.CallsLaws.{Passes}
use Rattle.statement.proofs.ReadingLaws.{Stored}
use Rattle.layout.specs.Children.{BelowPut}
use Rattle.record.specs.Laying.{tree_of, Read}
use Rattle.record.proofs.LaidLaws.{reading-refused, rows-read, rows-fielded}

-- refused by the checks
pub checks-refuse : (text : List ℕ) (n : ℕ) {r : Refusal} → Err r ≡ entry_checks text n → record_tree text n ≡ Err r
unfolding record_tree and_then
checks-refuse text n e = rw (← e)

-- past the checks the statements are what is read
tree_read : (text : List ℕ) (n : ℕ) → Passes text n → record_tree text n ≡ tree_of text
unfolding record_tree tree_of and_then
tree_read text n p = rw p.is

-- the statements are refused
pub read-refused : (text : List ℕ) (n : ℕ) → Passes text n → {r : Refusal} → kept_statements text ≡ Err r → record_tree text n ≡ Err r
read-refused text n p e = tree_read text n p ∙ reading-refused text e

-- or they stand in n rows, with the counts of the rows below them
pub read_kept :
    {text : List ℕ} {work n : ℕ} {w₀ w : List Row} → Passes text work → Stored text w₀ n → BelowPut w₀ n w → Read text work w n
read_kept {text} {work} p s b = record { are = tree_read text work p ∙ rows-read s b; ready = rows-fielded s b }
