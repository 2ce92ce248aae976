-- The entries as the Rust module has them, literals aside: each statement has its own usage alone, as in `Ungrouped`,
-- and alignment restarts in each list, as in `Restarted`. Where a copybook meets the tests of both they are those of
-- `Calls`, the places of usage words aside (`OriginalLaws`, of the proofs, says so).
-- Assumes nothing.
use Rattle.std.specs.Prelude.{ℕ, List}
use Rattle.definition.specs.Basic.{Answer, ◌>>=◌}
use Rattle.definition.specs.Words.{statement_words}
use Rattle.definition.specs.Tree.{forest, fields}
use Rattle.definition.specs.Fold.{Entries}
use Rattle.definition.specs.Calls.{entry_checks, literal_check}
use Rattle.theorems.specs.Restarted.{layout_restarted}
use Rattle.theorems.specs.Ungrouped.{statements_alone}

-- the folded top list: no usage is inherited, and each list is aligned as if it started the record
unfoldable pub entries_then : List ℕ → ℕ → Answer Entries
entries_then text work = do
  _ ← entry_checks text work
  _ ← literal_check text
  ss ← statements_alone text 0 (statement_words text)
  layout_restarted text (fields (forest ss))
