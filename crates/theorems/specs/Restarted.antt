-- The entries as they were while alignment restarted in each list, no group had slack at its end, and a group's 28 came
-- after its list, as in the Rust, with the usages that hold today (`Original` has both as they were); and the test on a
-- copybook under which they are those of `Calls` (`RestartedLaws`, of the proofs, says so): no SYNC below the fields of
-- the record, and no refusal inside a group whose target is missing.
-- Assumes nothing.
use Rattle.std.specs.Prelude.{ℕ, suc, max, Bool, true, false, ◌&&◌, ◌||◌, not, List, [], ◌∷◌, ltb}
use Rattle.definition.specs.declared.Span.{Span}
use Rattle.definition.specs.declared.Entry.{Entry}
use Rattle.definition.specs.declared.Refusal.{Refusal}
use Rattle.definition.specs.declared.TheConstants.{LARGEST}
use Rattle.definition.specs.Basic.{is_given, Answer, Err, Ok, ◌>>=◌, refuse_if}
use Rattle.definition.specs.Tree.{Forest, leaf, item}
use Rattle.definition.specs.Usages.{record_of}
use Rattle.definition.specs.Fold.{Entries, end, entry, times, total, entry_end, same_name, Place, place_of}
use Rattle.definition.specs.Fold.{fold_check, folded_all}
use Rattle.definition.specs.Layout.{shallow, content, start, slack_from, entry_of, advance, Laid}
use Rattle.definition.specs.Record.{ends_fit}
use Rattle.definition.specs.Calls.{kept_statements, record_fields}

-- ---------------------------------------------------------------- the layout as it was

-- 29 did not measure a width by itself
abbrev pub too_large_then : Entry → Bool
too_large_then e =
    ltb LARGEST (times e.occurs) || ltb LARGEST e.offset || ltb LARGEST (total e) || ltb LARGEST (entry_end e)

-- a list: each is aligned as if it started the record
unfoldable pub lay_restarted : List ℕ → ℕ → List Place → ℕ → ℕ → Forest → Answer Laid
lay_restarted text depth seen cursor reach leaf = Ok (record { entries = end; width = reach })
lay_restarted text depth seen cursor reach (item s kids later) = do
  _ ← shallow (suc depth) kids
  inner ← lay_restarted text (suc depth) [] 0 0 kids
  _ ← fold_check text [] inner.entries
  c ← content text s kids
  offset ← start text s kids seen 0 cursor
  let e = entry_of s c offset (slack_from cursor s offset) inner.width 0
  _ ← refuse_if (too_large_then e) (Refusal.TooLarge s.at)
  l ← lay_restarted text depth (place_of e ∷ seen) (advance cursor e) (max reach (entry_end e)) later
  Ok (record { entries = entry e inner.entries l.entries; width = l.width })

-- the fields of a record
unfoldable pub layout_restarted : List ℕ → Forest → Answer Entries
layout_restarted text f = do
  l ← lay_restarted text 0 [] 0 0 f
  _ ← fold_check text [] l.entries
  _ ← ends_fit (folded_all text l.entries)
  Ok (folded_all text l.entries)

unfoldable pub entries_restarted : List ℕ → ℕ → Answer Entries
entries_restarted text work = do
  f ← record_fields text work
  layout_restarted text f

-- ---------------------------------------------------------------- the test

-- no statement of these has SYNC; and none below them
abbrev pub unsynced : Forest → Bool
unsynced leaf = true
unsynced (item s kids later) = not s.clauses.sync && unsynced kids && unsynced later

abbrev pub unsynced_below : Forest → Bool
unsynced_below leaf = true
unsynced_below (item s kids later) = unsynced kids && unsynced_below later

-- one of these has the name
abbrev pub some_named : List ℕ → Span → List Span → Bool
some_named text w [] = false
some_named text w (n ∷ ns) = same_name text w n || some_named text w ns

-- a group's list was laid out without a refusal
abbrev pub is_laid : List ℕ → ℕ → Forest → Bool
is_laid text depth kids =
    elim (do
      _ ← shallow depth kids
      inner ← lay_restarted text depth [] 0 0 kids
      fold_check text [] inner.entries) [ Ok done ↦ true | Err r ↦ false ]

-- each group whose target is missing was: `names` are those of the earlier siblings, the latest first
unfoldable pub none_lost : List ℕ → ℕ → List Span → Forest → Bool
none_lost text depth names leaf = true
none_lost text depth names (item s kids later) =
    (not (is_given s.clauses.redefines) || some_named text s.clauses.redefines names || is_laid text (suc depth) kids)
    && none_lost text (suc depth) [] kids
    && none_lost text depth (s.name ∷ names) later

-- the test: the copybooks for which the Rust has an answer, as far as alignment goes
abbrev pub plain_slack : List ℕ → Bool
plain_slack text =
    elim (kept_statements text) [
      | Err r ↦ true
      | Ok ss ↦ unsynced_below (record_of ss) && none_lost text 0 [] (record_of ss)
    ]
