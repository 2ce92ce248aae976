-- The record: its folded top list, its length, and whether it is variable: `parse` and `from_fields` of the Rust.
-- Assumes nothing.
use Rattle.definition.specs.declared.Refusal.{Refusal}
use Rattle.std.specs.Prelude.{ℕ, max, Bool, false, ◌||◌, List, [], ltb}
use Rattle.definition.specs.declared.TheConstants.{LARGEST}
use Rattle.definition.specs.Basic.{is_given, Answer, Ok, ◌>>=◌, refuse_if}
use Rattle.definition.specs.Tree.{Forest}
use Rattle.definition.specs.Fold.{Entries, end, entry, entry_end, fold_check, folded_all}
use Rattle.definition.specs.Layout.{lay}

-- the record length is the largest offset plus reserved width over the folded top list
unfoldable pub record_length : Entries → ℕ
record_length end = 0
record_length (entry e members later) = max (entry_end e) (record_length later)

-- some entry, at any depth, has a DEPENDING ON
unfoldable pub variable : Entries → Bool
variable end = false
variable (entry e members later) = is_given e.depending || variable members || variable later

-- 29 again, for a top-level end; for a fold it carries its base's position
unfoldable pub ends_fit : Entries → Answer (Unit {0})
ends_fit end = Ok tt
ends_fit (entry e members later) = do
  _ ← refuse_if (ltb LARGEST (entry_end e)) (Refusal.TooLarge e.at)
  ends_fit later

-- the fields of the record, laid out, as the copybook has them before folding
unfoldable pub unfolded : List ℕ → Forest → Answer Entries
unfolded text f = do
  l ← lay text 0 0 [] 0 0 f
  _ ← fold_check text [] l.entries
  _ ← ends_fit (folded_all text l.entries)
  Ok l.entries

-- the entries of the listing: every list folded
unfoldable pub layout : List ℕ → Forest → Answer Entries
layout text f = do
  es ← unfolded text f
  Ok (folded_all text es)
