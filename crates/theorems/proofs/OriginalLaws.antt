-- A copybook that meets both tests, of usages and of alignment, has the entries that it had before both, but for the
-- words of usages: an alignment that restarts in each list does not ask for these either.
-- Assumes nothing.
use Prim.Native.Nat.{ℕ, suc, ◌+◌, max}
use mathlib.Core.Path.{◌≡◌, refl, sym, ap, ◌∙◌}
use mathlib.Core.Bool.{true}
use mathlib.Core.List.{List, [], ◌∷◌, map}
use native.Mathlib.Omega.{arith}
use Rattle.std.specs.Prelude.{if◌then◌else◌}
use Rattle.std.proofs.lemmas.Bool.{and_parts}
use Rattle.definition.specs.declared.Pictured.{Pictured}
use Rattle.definition.specs.declared.Statement.{Statement}
use Rattle.definition.specs.declared.Refusal.{Refusal}
use Rattle.definition.specs.Basic.{absent, is_given, fewest, Answer, Err, Ok, ◌>>=◌, and_then, refuse_if, or_refuse}
use Rattle.definition.specs.Words.{statement_words}
use Rattle.definition.specs.Statement.{statements}
use Rattle.definition.specs.Tree.{Forest, leaf, item, forest, fields}
use Rattle.definition.specs.Usages.{inherited}
use Rattle.definition.specs.Fold.{Entries, entry, entry_end, Place, place_of, find, fold_check}
use Rattle.definition.specs.Layout.{shallow, content, start, slack_from, entry_of, advance, Laid}
use Rattle.definition.specs.Calls.{entry_checks, literal_check, kept_statements, record_tree, record_fields, entries}
use Rattle.theorems.specs.Ungrouped.{listed, unworded, but_words, lasting_all, plain_read, plain_usages}
use Rattle.theorems.specs.Restarted.{too_large_then, lay_restarted, layout_restarted, entries_restarted, plain_slack}
use Rattle.theorems.specs.Original.{entries_then}
use Rattle.theorems.proofs.UngroupedLaws.{mapped, forget_statement, statements-forget, same-line, changed-line, bare}
use Rattle.theorems.proofs.UngroupedLaws.{bares, content-bare, aligned-bare, shallow-bare, check-unworded}
use Rattle.theorems.proofs.UngroupedLaws.{folded-unworded, below-unworded, fit-unworded, unworded_list, fields-forget}
use Rattle.theorems.proofs.UngroupedLaws.{listed-unworded}
use Rattle.theorems.proofs.RestartedLaws.{same-slack}

-- ---------------------------------------------------------------- an alignment that restarts does not ask for words

module _ (text : List ℕ) where
  -- an item by its parts, in the order in which they were said
  abbrev restarted_item :
      List Place →
      ℕ →
      ℕ →
      Statement →
      Answer Pictured →
      Answer ℕ →
      Answer (Unit {0}) →
      Answer Laid →
      (List Place → ℕ → ℕ → Answer Laid) →
      Answer Laid
  restarted_item seen cursor reach s own begins deep below after = do
    _ ← deep
    inner ← below
    _ ← fold_check text [] inner.entries
    c ← own
    offset ← begins
    let e = entry_of s c offset (slack_from cursor s offset) inner.width 0
    _ ← refuse_if (too_large_then e) (Refusal.TooLarge s.at)
    l ← after (place_of e ∷ seen) (advance cursor e) (max reach (entry_end e))
    Ok (record { entries = entry e inner.entries l.entries; width = l.width })

  item-unworded :
      (seen : List Place) (cursor reach : ℕ) (s : Statement) (own : Answer Pictured) (begins : Answer ℕ)
      (deep : Answer (Unit {0})) (below : Answer Laid) (after : List Place → ℕ → ℕ → Answer Laid) →
      restarted_item seen cursor reach (bare s) own begins deep (mapped (unworded_list text) below)
      (λ seen' cursor' reach'. mapped (unworded_list text) (after seen' cursor' reach'))
      ≡ mapped (unworded_list text) (restarted_item seen cursor reach s own begins deep below after)
  unfolding and_then
  item-unworded seen cursor reach s own begins deep below after =
      let u = unworded_list text in
      same-line u deep _ _ λ _.
      changed-line u u below _ _ λ inner.
      ap
      (λ (a : Answer (Unit {0})). a >>= λ _.
      own >>= λ c.
      begins >>= λ offset.
      let e = entry_of s c offset (slack_from cursor s offset) inner.width 0 in
      refuse_if (too_large_then e) (Refusal.TooLarge s.at) >>= λ _.
      mapped u (after (place_of e ∷ seen) (advance cursor e) (max reach (entry_end e))) >>= λ l.
      Ok (record { entries = entry (record e { usage = absent }) (unworded inner.entries) l.entries; width = l.width }))
      (check-unworded text inner.entries [])
      ∙ (same-line u (fold_check text [] inner.entries) _ _ λ _.
      same-line u own _ _ λ c.
      same-line u begins _ _ λ offset.
      let e = entry_of s c offset (slack_from cursor s offset) inner.width 0 in
      same-line u (refuse_if (too_large_then e) (Refusal.TooLarge s.at)) _ _ λ _.
      changed-line u u (after (place_of e ∷ seen) (advance cursor e) (max reach (entry_end e))) _ _ λ l. refl)

  lay-unworded :
      (f : Forest) (depth : ℕ) (seen : List Place) (cursor reach : ℕ) →
      lay_restarted text depth seen cursor reach (bares f) ≡ mapped (unworded_list text)
      (lay_restarted text depth seen cursor reach f)
  unfolding lay_restarted and_then
  lay-unworded leaf depth seen cursor reach = refl
  lay-unworded (item s kids later) depth seen cursor reach =
      (λ i. restarted_item seen cursor reach (bare s)
      (content-bare text s kids i)
      (if is_given s.clauses.redefines then or_refuse (Refusal.NoTarget s.at) (find text s.clauses.redefines seen)
      else Ok (cursor + fewest (aligned-bare text s kids i) (0 + cursor)))
      (shallow-bare text (suc depth) kids i)
      (lay-unworded kids (suc depth) [] 0 0 i)
      (λ seen' cursor' reach'. lay-unworded later depth seen' cursor' reach' i))
      ∙ item-unworded seen cursor reach s (content text s kids) (start text s kids seen 0 cursor)
      (shallow (suc depth) kids)
      (lay_restarted text (suc depth) [] 0 0 kids)
      (λ seen' cursor' reach'. lay_restarted text depth seen' cursor' reach' later)

  layout-unworded : (f : Forest) → layout_restarted text (bares f) ≡ mapped unworded (layout_restarted text f)
  unfolding layout_restarted and_then
  layout-unworded f =
      let l = lay-unworded f 0 [] 0 0 in
      grind (arith, l, check-unworded text, fit-unworded text, folded-unworded text, below-unworded text)

-- ---------------------------------------------------------------- the entries

-- what is laid out of the kept statements, after the checks, where each has its own usage
abbrev alone_in :
    Answer (Unit {0}) → Answer (Unit {0}) → (Forest → Answer Entries) → Answer (List Statement) → Answer Entries
alone_in checks closed lays kept = do
  _ ← checks
  _ ← closed
  ss ← kept
  lays (fields (forest ss))

-- where no group names a usage, it is what is laid out where each has the usage that holds for it
kept-forget :
    (checks closed : Answer (Unit {0})) (kept : Answer (List Statement)) (lays : Forest → Answer Entries) →
    ((f : Forest) → lays (bares f) ≡ mapped unworded (lays f)) →
    plain_read (closed >>= λ _. kept) ≡ true →
    mapped unworded (alone_in checks closed lays (mapped (map forget_statement) kept))
    ≡ mapped unworded (checks >>= (λ _. (closed >>= λ _. kept) >>= λ ss. Ok (inherited (forest ss)))
    >>= (λ t. Ok (fields t))
    >>= lays)
unfolding and_then
kept-forget (Err r) closed kept lays unasked h = refl
kept-forget (Ok u) (Err r) kept lays unasked h = refl
kept-forget (Ok u) (Ok v) (Err r) lays unasked h = refl
kept-forget (Ok u) (Ok v) (Ok ss) lays unasked h = fields-forget lays ss unasked h

-- where usages are plain: as while alignment alone was another
same-restarted :
    (text : List ℕ) (work : ℕ) →
    plain_usages text ≡ true →
    mapped unworded (entries_then text work) ≡ mapped unworded (entries_restarted text work)
unfolding entries_then entries_restarted record_fields record_tree kept_statements and_then
same-restarted text work h =
    let both = and_parts (lasting_all text (statement_words text)) (plain_read (kept_statements text)) h in
    ap
    (λ (a : Answer (List Statement)). mapped unworded
    (alone_in (entry_checks text work) (literal_check text) (layout_restarted text) a))
    (statements-forget text (statement_words text) 0 both.0)
    ∙ kept-forget (entry_checks text work) (literal_check text) (statements text 0 (statement_words text))
    (layout_restarted text) (layout-unworded text) both.1

-- a copybook that meets both tests has the entries that it had before both, but for the words of usages
pub same-then :
    (text : List ℕ) (work : ℕ) →
    plain_slack text ≡ true →
    plain_usages text ≡ true →
    but_words (entries_then text work) ≡ but_words (entries text work)
same-then text work k h = same-restarted text work h ∙ ap (mapped unworded) (same-slack text work k)

-- so it has the listing that it had
pub same-listing-then :
    (text : List ℕ) (work : ℕ) →
    plain_slack text ≡ true →
    plain_usages text ≡ true →
    listed (entries_then text work) ≡ listed (entries text work)
same-listing-then text work k h =
    sym (listed-unworded (entries_then text work))
    ∙ ap listed (same-then text work k h)
    ∙ listed-unworded (entries text work)
