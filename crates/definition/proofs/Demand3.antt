-- Of an accepted copybook, free text or cards, without REDEFINES and DEPENDING ON, a dropped root's own aside, every byte
-- has exactly one owner, and the byte owner names it; the listing has the record length, offsets and widths of the owner
-- rule; a record is the pieces it is cut into.
-- Assumes nothing.
use Prim.Native.Nat.{ℕ, ◌-◌, ◌≤◌, ◌<◌}
use mathlib.Core.Path.{◌≡◌, refl, sym, ◌∙◌, ap, subst}
use mathlib.Core.Bool.{true, false}
use mathlib.Core.List.{List, [], append-nil, map}
use native.Mathlib.Omega.{arith}
use lib.ListN.{length}
use Rattle.std.specs.Prelude.{None, Some}
use Rattle.definition.specs.declared.Refusal.{Refusal}
use Rattle.definition.specs.declared.Span.{Span}
use Rattle.definition.specs.declared.Owner.{Owner}
use Rattle.definition.specs.Basic.{part, Answer, Err, Ok, and_then}
use Rattle.definition.specs.Words.{statement_words}
use Rattle.definition.specs.Tree.{Forest}
use Rattle.definition.specs.Fold.{Entries}
use Rattle.definition.specs.Record.{record_length, layout}
use Rattle.definition.specs.Cards.{view_in}
use Rattle.definition.specs.declared.Form.{Form}
use Rattle.definition.specs.Calls.{kept_statements, record_fields, entries, asked, owner_in, called}
use Rattle.definition.specs.Owner.{extent, pieces, owner_from, owner_of, overlaid, cut, join}
use Rattle.definition.specs.Placed.{placed}
use Rattle.definition.specs.Search.{seek, Row, rows, walk}
use Rattle.definition.specs.Demand.{Tells, Spot, width_of, spots_of, spots, parts, EachSpan, owner_on, Demand, Kept}
use Rattle.definition.proofs.Answers.{through}
use Rattle.definition.proofs.CallsLaws.{called-as, through-fields, asked-of}
use Rattle.definition.proofs.SpanLaws.{ForestSpans, statements-spans, record-spans, layout-spans}
use Rattle.definition.proofs.CardLaws.{view-words}
use Rattle.definition.proofs.Pieces.{Found, found, owner_none, cut-parts, cut-wide, join-cut}
use Rattle.definition.proofs.Cover.{plain, layout-placed, placed-length}
use Rattle.definition.proofs.Seek.{seek-owner}
use Rattle.definition.proofs.Walk.{walk-seek}
use Rattle.definition.proofs.SpotLaws.{tells-placed, told-laid}

-- ---------------------------------------------------------------- the fields of a record, however they were read

module _ (text : List ℕ) (f : Forest) (tree : Entries) where
  -- a kept REDEFINES or DEPENDING ON is refused, wherever the position
  pub refuses-40 : overlaid f ≡ true → (q : ℕ) → owner_in q text None f tree ≡ Err Refusal.Overlaid
  unfolding owner_in and_then
  refuses-40 o q = rw o

module _ (text : List ℕ) (f : Forest) (es : Entries) (laid_out : layout text f ≡ Ok es) (free : overlaid f ≡ false) where
  -- The entries of the listing are those that the owner rule places: each offset is the place that its sibling list has
  -- reached after the earlier items and the entry's own slack, and a group's width is the length of its list laid once.
  pub offsets : es ≡ placed text 0 0 0 f
  offsets = layout-placed text f es (plain f free) laid_out

  -- The pieces cover the record with nothing left over: their widths add up to the listing's record length.
  pub cover : record_length es ≡ extent (pieces text f)
  cover = ap record_length offsets ∙ omega (arith, placed-length text 0 0 0 f (plain f free))

  -- The listing tells the items of the copybook: one entry for each, in order, aligned by the fewest bytes,
  pub items : Tells text 0 0 f es
  items = subst (Tells text 0 0 f) (sym offsets) (tells-placed text f 0 0 0 (plain f free))

  -- and the pieces are those that it tells.
  pub in_order : spots 0 (pieces text f) ≡ spots_of 0 0 es
  in_order = sym (ap (spots_of 0 0) offsets ∙ told-laid text f 0 0 0 0 (plain f free))

  -- For each position below the record length exactly one piece has it, and the search names that one.
  pub one-owner : (q : ℕ) → q < record_length es → Found (spots_of 0 0 es) q (owner_of (pieces text f) q)
  one-owner q h =
      let here : q - 0 ≡ q = omega arith in
      subst (λ (xs : List Spot). Found xs q (owner_of (pieces text f) q)) in_order
      (subst (λ (n : ℕ). Found (spots 0 (pieces text f)) q (owner_from 0 (pieces text f) n)) here (found (pieces text f) 0 q (omega arith) (omega (arith, cover))))

  -- and the byte owner call answers with it
  pub answers : (q : ℕ) (tree : Entries) {o : Owner} → owner_of (pieces text f) q ≡ Some o → owner_in q text None f tree ≡ Ok o
  unfolding owner_in and_then
  answers q tree h = rw (free, h)

  -- a position that is not below it is refused
  pub refuses-41 : (q : ℕ) (tree : Entries) → record_length es ≤ q → owner_in q text None f tree ≡ Err Refusal.OutsideRecord
  unfolding owner_in and_then
  refuses-41 q tree h = rw (free, owner_none 0 (pieces text f) q (omega (arith, cover)))

  -- A record of that length is cut into the bytes at each spot, as wide as it,
  pub cuts : (bs : List ℕ) → cut (pieces text f) bs ≡ parts (spots_of 0 0 es) bs
  cuts bs = cut-parts (pieces text f) 0 bs ∙ ap (λ (xs : List Spot). parts xs bs) in_order

  pub widths :
      (bs : List ℕ) →
      length bs ≡ record_length es →
      map length (cut (pieces text f) bs) ≡ map width_of (spots_of 0 0 es)
  widths bs h = cut-wide (pieces text f) 0 bs (h ∙ cover) ∙ ap (map width_of) in_order

  -- and joined again, it is itself.
  pub whole : (bs : List ℕ) → length bs ≡ record_length es → join (cut (pieces text f) bs) ≡ bs
  whole bs h = join-cut (pieces text f) bs (h ∙ cover)

  -- The owner is found among the entries of the listing, with no piece laid,
  pub sought : (q : ℕ) → seek 0 0 es q ≡ owner_of (pieces text f) q
  sought q =
      ap (λ (x : Entries). seek 0 0 x q) offsets
      ∙ seek-owner text f 0 0 0 0 q (plain f free) (omega arith)
      ∙ ap (owner_from 0 (pieces text f)) (omega arith)

  -- and by a walk from row to row of the listing:
  pub walked : (q : ℕ) → q < record_length es → walk 0 0 0 (rows es) q ≡ owner_of (pieces text f) q
  walked q h =
      ap (λ (l : List Row). walk 0 0 0 l q) (sym (append-nil (rows es)))
      ∙ walk-seek es 0 0 q [] (sought q ∙ (one-owner q h).names)
      ∙ sym (one-owner q h).names

  -- this is what the code of the byte owner computes, after the reader's refusals, 40 and 41.
  pub computed : (q : ℕ) (tree : Entries) {o : Owner} → q < record_length es → walk 0 0 0 (rows es) q ≡ Some o → owner_in q text None f tree ≡ Ok o
  computed q tree h w = answers q tree (sym (walked q h) ∙ w)

-- ---------------------------------------------------------------- a copybook

-- the fields that are read, and the entries laid from them, name places that stand so in the copybook's own text
module _ (form : Form) (text : List ℕ) (work : ℕ) (f : Forest) where
  abbrev SameIn : Span → Type 0
  SameIn w = part (view_in form text) w ≡ part text w

  fields-spelt : record_fields (view_in form text) work ≡ Ok f → ForestSpans SameIn f
  unfolding kept_statements
  fields-spelt h =
      through-fields (view_in form text) work f h λ ss e is.
      through _ _ e λ _ _ h₃.
      let words = view-words form text in
      let kept = statements-spans SameIn refl (statement_words (view_in form text)) (view_in form text) 0 words h₃ in
      subst (ForestSpans SameIn) is (record-spans SameIn ss kept)

  view-spans :
      (es : Entries) →
      record_fields (view_in form text) work ≡ Ok f →
      layout (view_in form text) f ≡ Ok es →
      EachSpan SameIn es
  view-spans es read laid_out = layout-spans SameIn refl (view_in form text) f es (fields-spelt read) laid_out

-- of fields without REDEFINES and DEPENDING ON, where the byte owner answers as in those fields
demanded :
    (text : List ℕ) (owner : ℕ → Answer Owner) (f : Forest) (tree es : Entries) →
    ((q : ℕ) → owner q ≡ owner_in q text None f tree) →
    layout text f ≡ Ok es →
    overlaid f ≡ false →
    Demand text owner f es
demanded text owner f tree es asks laid_out free =
    let one = one-owner text f es laid_out free in
    record {
      items = items text f es laid_out free;
      in_order = in_order text f es laid_out free;
      covered = sym (cover text f es laid_out free);
      one-owner = λ q l. (one q l).one;
      named = λ q l. asks q ∙ answers text f es laid_out free q tree (one q l).names;
      cuts = λ bs _. cuts text f es laid_out free bs;
      widths = widths text f es laid_out free;
      whole = whole text f es laid_out free;
      apart = λ bs cs h k same.
          sym (whole text f es laid_out free bs h) ∙ ap join same ∙ whole text f es laid_out free cs k;
    }

-- the whole demand: every accepted copybook keeps it
pub demand3 :
    (form : Form) (text : List ℕ) (work : ℕ) (es : Entries) →
    called form (λ t. entries t work) text work ≡ Ok es →
    Kept form text work es
unfolding entries layout owner_in
demand3 form text work es h =
    let seen = view_in form text in
    let laying : List ℕ → Answer Entries = λ t. entries t work in
    let accepted : entries seen work ≡ Ok es = sym (called-as laying laying form text work h) ∙ h in
    through _ _ accepted λ f read laid_out.
    through _ _ laid_out λ tree unfolds _.
    let asks : (q : ℕ) → owner_on form text work q ≡ owner_in q seen None f tree =
    λ q. called-as laying (λ t. asked (owner_in q) t work) form text work h ∙ asked-of (owner_in q) seen work f tree read unfolds (λ _. refl) in
    record {
      of = f;
      read = read;
      laid_out = laid_out;
      spelt = view-spans form text work f es read laid_out;
      demand = demanded seen (owner_on form text work) f tree es asks laid_out;
      outside = λ o q l. asks q ∙ refuses-41 seen f es laid_out o q tree l;
      refuses = λ o q. asks q ∙ refuses-40 seen f tree o q;
    }
