-- Laws of the layout in the table: a list goes on after its first item; an item is its inner list and then its own
-- place.
-- Assumes nothing.
use Prim.Native.Nat.{ℕ, suc, ◌+◌, ◌-◌, ◌%◌, max, ◌≤◌, ◌<◌}
use mathlib.Core.Path.{◌≡◌, refl, sym, ap, subst, ◌∙◌}
use mathlib.Core.Bool.{Bool, true, false}
use mathlib.Core.List.{List, [], ◌∷◌}
use native.Mathlib.Omega.{arith}
use lib.ListN.{length, set}
use borrow.Author.Tests.{lt-ltb, le-ltb}
use Rattle.definition.specs.declared.Refusal.{Refusal}
use Rattle.definition.specs.declared.FieldKind.{FieldKind}
use Rattle.definition.specs.declared.Pictured.{Pictured}
use Rattle.definition.specs.declared.Statement.{Statement}
use Rattle.definition.specs.declared.Entry.{Entry}
use Rattle.definition.specs.declared.TheConstants.{LARGEST}
use Rattle.std.specs.Prelude.{None, if◌then◌else◌}
use Rattle.definition.specs.Basic.{is_given, Answer, Err, Ok, ◌>>=◌, and_then}
use Rattle.definition.specs.Tree.{Forest, leaf, item, forest}
use Rattle.definition.specs.Picture.{pictured}
use Rattle.definition.specs.Fold.{Entries, end, entry, entry_end, Place, place_of, fold_check}
use Rattle.definition.specs.Storage.{or_none, elementary, place_alignment, alignment, width_alignment}
use Rattle.definition.specs.Layout.{shallow, content, start, entry_of, advance, Laid, lay}
use Rattle.definition.specs.Owner.{size}
use Rattle.definition.specs.Search.{entries#}
use Rattle.rows.specs.declared.Row.{Row}
use Rattle.rows.specs.Rows.{statement_at, row_in, before_in, row_code, row_of_code}
use Rattle.rows.proofs.RowLaws.{code-back}
use Rattle.layout.specs.Places.{placed, put_places, entry_at, entry_in, placed_in, rows_forest}
use Rattle.layout.specs.Targets.{place_at, seen_from, seen_at, bases_at, base_after}
use Rattle.layout.proofs.SearchLaws.{searched_same, plain-same, if-most, row-most}
use Rattle.layout.specs.Fingerprints.{Fingerprinted}
use Rattle.layout.specs.Children.{ChildrenEnd, BelowCounted}
use Rattle.layout.proofs.PlaceLaws.{length-places, known-places, before-places, statement-places, statements-places, first_place}
use Rattle.layout.proofs.PlaceLaws.{back_by, seen_low, seen-in, seen_same, fingerprinted-places}
use Rattle.layout.proofs.RowLaws.{forest-empty, forest-split, children-end}
use Rattle.layout.proofs.EntriesLaws.{size-stretch, rows-forest, Held, places-held, next_row, of_size, counted_step}
use Rattle.layout.proofs.EntriesLaws.{counted-kept, EntryOf, entry-placed}
use Rattle.layout.specs.Checks.{check_entry, check_row}
use Rattle.layout.specs.Shown.{bases_after}
use Rattle.layout.proofs.BaseLaws.{bases-after}
use Rattle.layout.proofs.CheckLaws.{by_kind, row-check}
use Rattle.layout.proofs.EndLaws.{within}
use Rattle.definition.proofs.Answers.{through, given-same}
use Rattle.definition.proofs.MovedLaws.{lay-remainder}
use Rattle.definition.proofs.Slack.{place-aligning, list-aligning}
use Rattle.layout.specs.declared.Beginning.{Beginning}
use Rattle.layout.specs.declared.LaidItem.{LaidItem}
use Rattle.layout.specs.declared.LaidList.{LaidList}
use Rattle.layout.specs.Bare.{place_multiple, width_multiple, starts, ItemLaid, placed_entry, bare_item}
use Rattle.layout.specs.Outcomes.{stopped, ready, after, lay_rest, lay_table, checked_list, lay_inner, halted, placing}
use Rattle.layout.specs.Outcomes.{after_item, item_alignment, lay_item, Found, Begun, after_own, place_row, Room}
use Rattle.layout.proofs.ListLaws.{rest_after, bare-split, item-is, bare-is}

-- ---------------------------------------------------------------- what an outcome says

-- the refusal is the same where the answers are
refusal-same : {A : Type 0} {q r : Refusal} → ◌≡◌ {A = Answer A} (Err q) (Err r) → q ≡ r
refusal-same h = cc

-- a list that is ready was given
record Readied (text : List ℕ) (w : List Row) (k last all : ℕ) (c : Answer (Unit {0})) (a : Answer Laid) (width largest : ℕ) (checked : Answer (Unit {0})) (w' : List Row) : Type 0 where
  laid : Laid
  is : a ≡ Ok laid
  wide : laid.width ≡ width
  aligned : all ≡ largest
  check : (c >>= λ _. fold_check text (bases_at w last) laid.entries) ≡ checked
  put : put_places text w k last laid.entries ≡ w'

readied :
    (text : List ℕ) (w : List Row) (k last all : ℕ) (c : Answer (Unit {0})) (a : Answer Laid) {width largest : ℕ}
    {checked : Answer (Unit {0})} {w' : List Row} →
    after text w k last all c a ≡ ready width largest checked w' →
    Readied text w k last all c a width largest checked w'
readied text w k last all c (Err r) h = absurd (let z : ◌≡◌ {A = ℕ} 0 1 = cc in omega arith)
readied text w k last all c (Ok x) h =
    let same = given-same h in
    record {
      laid = x;
      is = refl;
      wide = ap (λ (p : LaidList × List Row). p.0.width) same;
      aligned = ap (λ (p : LaidList × List Row). p.0.alignment) same;
      check = ap (λ (p : LaidList × List Row). p.0.checked) same;
      put = ap (λ (p : LaidList × List Row). p.1) same;
    }

stopped-was :
    (text : List ℕ) (w : List Row) (k last all : ℕ) (c : Answer (Unit {0})) (a : Answer Laid) {r : Refusal} →
    after text w k last all c a ≡ stopped r →
    a ≡ Err r
stopped-was text w k last all c (Err q) h = cc
stopped-was text w k last all c (Ok x) h = absurd (let z : ◌≡◌ {A = ℕ} 0 1 = cc in omega arith)

-- an item that is placed was given
record Given (text : List ℕ) (w : List Row) (i last cursor all : ℕ) (a : Answer ItemLaid) (c e largest : ℕ) (w' : List Row) : Type 0 where
  laid : ItemLaid
  is : a ≡ Ok laid
  moves : advance cursor laid.own ≡ c
  ends : entry_end laid.own ≡ e
  aligned : all ≡ largest
  put : put_places text w i last (entry laid.own laid.members end) ≡ w'

item-given :
    (text : List ℕ) (w : List Row) (i last cursor all : ℕ) (a : Answer ItemLaid) {c e largest : ℕ} {w' : List Row} →
    after_item text w i last cursor all a ≡ placing c e largest w' →
    Given text w i last cursor all a c e largest w'
item-given text w i last cursor all (Err r) h = absurd (let z : ◌≡◌ {A = ℕ} 0 1 = cc in omega arith)
item-given text w i last cursor all (Ok x) h =
    let same = given-same h in
    record {
      laid = x;
      is = refl;
      moves = ap (λ (p : LaidItem × List Row). p.0.cursor) same;
      ends = ap (λ (p : LaidItem × List Row). p.0.end) same;
      aligned = ap (λ (p : LaidItem × List Row). p.0.alignment) same;
      put = ap (λ (p : LaidItem × List Row). p.1) same;
    }

halted-was : (text : List ℕ) (w : List Row) (i last cursor all : ℕ) (a : Answer ItemLaid) {r : Refusal} → after_item text w i last cursor all a ≡ halted r → a ≡ Err r
halted-was text w i last cursor all (Err q) h = cc
halted-was text w i last cursor all (Ok x) h = absurd (let z : ◌≡◌ {A = ℕ} 0 1 = cc in omega arith)

-- ---------------------------------------------------------------- the first item of a list, and the rest

passed-end : (c : Answer (Unit {0})) → c ≡ (c >>= λ _. Ok tt)
unfolding and_then
passed-end (Err r) = refl
passed-end (Ok x) = refl

after_then :
    (text : List ℕ) (w : List Row) (i last all : ℕ) (c : Answer (Unit {0})) (x : ItemLaid) (a : Answer Laid) →
    let w' = put_places text w i last (entry x.own x.members end) in
    bases_at w' (suc i) ≡ bases_after x.own (bases_at w last) →
    after text w i last all c (a >>= λ l. Ok (record { entries = entry x.own x.members l.entries; width = l.width }))
    ≡ after text w' (suc i + entries# x.members) (suc i) all (c >>= λ _. check_entry text (bases_at w last) x.own) a
unfolding put_places and_then
after_then text w i last all c x (Err r) h = refl
after_then text w i last all (Err r) x (Ok l) h = refl
after_then text w i last all (Ok _) x (Ok l) h =
    let w' = put_places text w i last (entry x.own x.members end) in
    ap (λ (d : Answer (Unit {0})). ready l.width all d (put_places text w' (suc i + entries# x.members) (suc i) l.entries))
    (by_kind text (bases_at w last) x.own x.members l.entries (is_given x.own.redefines) refl
    ∙ ap (λ (b : List Place). check_entry text (bases_at w last) x.own >>= λ _. fold_check text b l.entries) (sym h))

-- the rows with an item's place
module _ (text : List ℕ) (w : List Row) (i last : ℕ) (x : ItemLaid) (fits : i < length w) (l : last ≤ i) (of : EntryOf (statement_at w i) x.own) where
  abbrev with-item : List Row
  with-item = put_places text w i last (entry x.own x.members end)

  here : row_in with-item i ≡ placed_in text (put_places text w (suc i) 0 x.members) i last x.own
  here = first_place text x.own x.members end w i last fits

  own-entry : entry_in with-item i ≡ x.own
  own-entry = ap entry_at here ∙ entry-placed (row_in (put_places text w (suc i) 0 x.members) i) (statement_at w i) x.own of (statement-places text x.members w (suc i) 0 i)

  low-bases : bases_at with-item last ≡ bases_at w last
  low-bases = seen_same true with-item w last last (λ k p. before-places text (entry x.own x.members end) w i last k (omega arith))

  bases_step : bases_at with-item (suc i) ≡ bases_after x.own (bases_at w last)
  bases_step =
      bases-after with-item i last (ap (λ (r : Row). i - r.place.gap) here ∙ back_by i last l) l
      ∙ ap (λ (e : Entry). bases_after e (bases_at with-item last)) own-entry
      ∙ ap (bases_after x.own) low-bases

  base-is : row_code (row_in with-item i).place.base ≡ base_after text with-item i last
  base-is =
      let before = λ (j : ℕ) (p : j < last). before-places text x.members w (suc i) 0 j (omega arith) ∙ sym (before-places text (entry x.own x.members end) w i last j (omega arith)) in
      ap (λ (r : Row). row_code r.place.base) here
      ∙ code-back (base_after text (put_places text w (suc i) 0 x.members) i last)
      ∙ searched_same text true (put_places text w (suc i) 0 x.members) with-item i last (sym (ap (λ (r : Row). r.statement) here)) before

  base-low : row_code (row_in with-item i).place.base ≤ i
  base-low =
      let r = (row_in with-item i).statement.clauses.redefines in
      omega (arith, base-is, if-most (is_given r) (row-most text with-item r true last last) (let z : 0 ≤ last = omega arith in z))

  -- the check of the row is that of the entry
  check-is : check_row with-item i ≡ check_entry text (bases_at w last) x.own
  check-is =
      row-check text with-item i last base-is
      ∙ ap (λ (b : List Place). check_entry text b (entry_in with-item i)) low-bases
      ∙ ap (check_entry text (bases_at w last)) own-entry

-- the earlier siblings after an item
seen_step :
    (text : List ℕ) (w : List Row) (i last : ℕ) (x : ItemLaid) →
    i < length w →
    last ≤ i →
    (statement_at w i).name ≡ x.own.name →
    seen_at (put_places text w i last (entry x.own x.members end)) (suc i) ≡ place_of x.own ∷ seen_at w last
seen_step text w i last x fits l h =
    let es = entry x.own x.members end in
    let w' = put_places text w i last es in
    let here = first_place text x.own x.members end w i last fits in
    let name : (row_in w' i).statement.name ≡ x.own.name = ap (λ (y : Statement). y.name) (statement-places text es w i last i) ∙ h in
    let offset : (row_in w' i).place.offset ≡ x.own.offset = ap (λ (r : Row). r.place.offset) here in
    let before : seen_from false w' i (before_in w' i) ≡ seen_at w last =
    ap (λ (r : Row). seen_from false w' i (i - r.place.gap)) here
    ∙ ap (seen_from false w' i) (back_by i last l)
    ∙ seen_same false w' w i last (before-places text es w i last)
    ∙ seen_low false w i last l in
    let own : place_at w' i ≡ place_of x.own = λ k. record { name = name k; offset = offset k } in
    seen-in false w' i refl ∙ (λ k. own k ∷ before k)

module _ (text : List ℕ) (w : List Row) (i to j depth base last cursor reach largest : ℕ) (c : Answer (Unit {0})) (h : ChildrenEnd w i to j) where
  abbrev own_is : Statement
  own_is = statement_at w i

  abbrev kids_are : Forest
  kids_are = rows_forest w (suc i) j

  abbrev later_are : Forest
  later_are = rows_forest w j to

  abbrev laid_bare : Answer ItemLaid
  laid_bare = bare_item text depth base (seen_at w last) cursor own_is kids_are

  abbrev and_rest : ItemLaid → Answer Laid
  and_rest = rest_after text depth base (seen_at w last) cursor reach own_is kids_are later_are

  abbrev all_aligned : ℕ
  all_aligned = max largest (alignment text (rows_forest w i to))

  list-split :
      lay_rest text w i to depth base last cursor reach largest c
      ≡ after text w i last all_aligned c (laid_bare >>= and_rest)
  list-split =
      ap (λ (f : Forest). after text w i last all_aligned c (lay text depth base (seen_at w last) cursor reach f)) (forest-split w i to j h)
      ∙ ap (after text w i last all_aligned c) (bare-split text depth base (seen_at w last) cursor reach own_is kids_are later_are)

  -- the largest alignment is that of the item, and that of the rest
  aligned-split : all_aligned ≡ max (max largest (item_alignment text own_is kids_are)) (alignment text later_are)
  unfolding alignment
  aligned-split = ap (λ (f : Forest). max largest (alignment text f)) (forest-split w i to j h) ∙ omega arith

  pub list-stop :
      {r : Refusal} →
      lay_item text w i j depth base last cursor ≡ halted r →
      lay_rest text w i to depth base last cursor reach largest c ≡ stopped r
  unfolding and_then
  list-stop e =
      list-split
      ∙ ap (λ (a : Answer ItemLaid). after text w i last all_aligned c (a >>= and_rest))
      (halted-was text w i last cursor (item_alignment text own_is kids_are) laid_bare e)

  -- the item that was placed
  placed_is :
      {m e n : ℕ} {w' : List Row} →
      lay_item text w i j depth base last cursor ≡ placing m e n w' →
      Given text w i last cursor (item_alignment text own_is kids_are) laid_bare m e n w'
  placed_is q = item-given text w i last cursor (item_alignment text own_is kids_are) laid_bare q

  -- its entry is its statement's
  of-item :
      {m e n : ℕ} {w' : List Row} →
      (q : lay_item text w i j depth base last cursor ≡ placing m e n w') →
      EntryOf own_is (placed_is q).laid.own
  of-item q =
      let y = item-is text depth base (seen_at w last) cursor own_is kids_are (placed_is q).is in
      record {
        place = y.offset;
        slack = y.slack;
        contents = y.contents;
        inner = y.inner.width;
        at_end = y.at_end;
        is = sym y.own;
      }

  pub list-step :
      {m e n : ℕ} {w' : List Row} →
      to ≤ length w →
      last ≤ i →
      lay_item text w i j depth base last cursor ≡ placing m e n w' →
      lay_rest text w i to depth base last cursor reach largest c
      ≡ lay_rest text w' j to depth base (suc i) m (max reach e) (max largest n) (c >>= λ _. check_row w' i)
  unfolding and_then
  list-step {m} {e} {n} {w'} fits l q =
      let K = kids_are in
      let L = later_are in
      let s = own_is in
      let g = placed_is q in
      let x = g.laid in
      let y = item-is text depth base (seen_at w last) cursor s K g.is in
      let inner = bare-is text K (suc depth) (base + y.offset) [] 0 0 (omega arith) y.inner-laid in
      let many : entries# x.members ≡ size K = ap entries# (sym y.members) ∙ of_size K y.inner.entries inner.of in
      let at : suc i + entries# x.members ≡ j = omega (arith, many, next_row w i to j h) in
      let w₁ = put_places text w i last (entry x.own x.members end) in
      let seen : place_of x.own ∷ seen_at w last ≡ seen_at w₁ (suc i) = sym (seen_step text w i last x (omega (arith, h.low, h.high)) l (ap (λ (z : Entry). z.name) y.own)) in
      let rows : L ≡ rows_forest w₁ j to = ap forest (sym (statements-places text (entry x.own x.members end) w i last j (to - j))) in
      let it = of-item q in
      let there : i < length w = omega (arith, h.low, h.high) in
      let d : Answer (Unit {0}) = c >>= λ _. check_entry text (bases_at w last) x.own in
      let d' : Answer (Unit {0}) = c >>= λ _. check_row w₁ i in
      let more : List Place → Forest → Answer Laid =
      λ z f. lay text depth base z (advance cursor x.own) (max reach (entry_end x.own)) f in
      let so_far = max largest (item_alignment text s K) in
      list-split
      ∙ ap (λ (a : Answer ItemLaid). after text w i last all_aligned c (a >>= and_rest)) g.is
      ∙ after_then text w i last all_aligned c x (more (place_of x.own ∷ seen_at w last) L) (bases_step text w i last x there l it)
      ∙ ap (λ (u : Answer (Unit {0})). after text w₁ (suc i + entries# x.members) (suc i) all_aligned (c >>= λ _. u) (more (place_of x.own ∷ seen_at w last) L)) (sym (check-is text w i last x there l it))
      ∙ ap (λ (k : ℕ). after text w₁ k (suc i) all_aligned d' (more (place_of x.own ∷ seen_at w last) L)) at
      ∙ ap (λ (z : List Place). after text w₁ j (suc i) all_aligned d' (more z L)) seen
      ∙ ap (λ (k : ℕ). after text w₁ j (suc i) k d' (more (seen_at w₁ (suc i)) L)) aligned-split
      ∙ ap (λ (f : Forest). after text w₁ j (suc i) (max so_far (alignment text f)) d' (more (seen_at w₁ (suc i)) f)) rows
      ∙ (λ k. lay_rest text (g.put k) j to depth base (suc i) (g.moves k) (max reach (g.ends k)) (max largest (g.aligned k)) (c >>= λ _. check_row (g.put k) i))

  -- the base of an item that was placed is an earlier row
  pub placed-low :
      {m e n : ℕ} {w' : List Row} →
      to ≤ length w →
      last ≤ i →
      lay_item text w i j depth base last cursor ≡ placing m e n w' →
      row_code (row_in w' i).place.base ≤ i
  placed-low fits l q =
      let g = placed_is q in
      subst (λ (v : List Row). row_code (row_in v i).place.base ≤ i) g.put (base-low text w i last g.laid (omega (arith, h.low, h.high)) l (of-item q))

-- after the last item
pub list-none :
    (text : List ℕ) (w : List Row) (i to depth base last cursor reach largest : ℕ) (c : Answer (Unit {0})) →
    0 < largest →
    to ≤ i →
    lay_rest text w i to depth base last cursor reach largest c ≡ ready reach largest c w
unfolding lay put_places fold_check alignment
list-none text w i to depth base last cursor reach largest c pos h =
    let one : max largest 1 ≡ largest = omega arith in
    ap (λ (f : Forest). after text w i last (max largest (alignment text f)) c (lay text depth base (seen_at w last) cursor reach f)) (forest-empty w i to h)
    ∙ ap (λ (n : ℕ). ready reach n (c >>= λ _. Ok tt) w) one
    ∙ ap (λ (d : Answer (Unit {0})). ready reach largest d w) (sym (passed-end c))

-- the cursor stays within the limit
advance-within : (cursor : ℕ) (e : Entry) → cursor ≤ LARGEST → entry_end e ≤ LARGEST → advance cursor e ≤ LARGEST
advance-within cursor e h l = go (is_given e.redefines)
  where
    go : (b : Bool) → (if b then cursor else entry_end e) ≤ LARGEST
    go true = h
    go false = l

pub item-within :
    (text : List ℕ) (w : List Row) (i j depth base last cursor : ℕ) {c e n : ℕ} {w' : List Row} →
    cursor ≤ LARGEST →
    lay_item text w i j depth base last cursor ≡ placing c e n w' →
    c ≤ LARGEST
item-within text w i j depth base last cursor h q =
    let s = statement_at w i in
    let kids = rows_forest w (suc i) j in
    let g = item-given text w i last cursor (item_alignment text s kids) (bare_item text depth base (seen_at w last) cursor s kids) q in
    let y = item-is text depth base (seen_at w last) cursor s kids g.is in
    let n = subst (λ (z : Entry). entry_end z ≤ LARGEST) y.own (within (entry_of s y.contents y.offset y.slack y.inner.width y.at_end) y.fits).ends in
    subst (λ (z : ℕ). z ≤ LARGEST) g.moves (advance-within cursor g.laid.own h n)

-- there is room to go on behind it
pub item_room :
    (text : List ℕ) (w : List Row) (i to j depth base last cursor : ℕ) {c e n : ℕ} {w' : List Row} →
    ChildrenEnd w i to j →
    lay_item text w i j depth base last cursor ≡ placing c e n w' →
    length w' ≡ length w →
    Room text w i to →
    Room text w' j to
item_room text w i to j depth base last cursor h q l r =
    let s = statement_at w i in
    let kids = rows_forest w (suc i) j in
    let g = item-given text w i last cursor (item_alignment text s kids) (bare_item text depth base (seen_at w last) cursor s kids) q in
    let es = entry g.laid.own g.laid.members end in
    let counted =
    counted-kept w (put_places text w i last es) (λ k. sym (known-places text es w i last k)) j to
    (counted_step w i to j h r.counted).2 in
    record {
      fits = omega (arith, l, r.fits);
      small = r.small;
      fingerprinted = subst (λ (x : List Row). Fingerprinted text x to) g.put (fingerprinted-places text es w i last r.fingerprinted);
      counted = subst (λ (x : List Row). BelowCounted x j (rows_forest x j to)) g.put counted;
    }

-- ---------------------------------------------------------------- what an item holds, and where it starts

-- the alignment of an item by what it holds
place-is :
    (text : List ℕ) (s : Statement) (kids : Forest) (c : Pictured) →
    content text s kids ≡ Ok c →
    place_alignment text s kids ≡ place_multiple s c
place-is text s leaf c h = ap (λ (a : Answer Pictured). place_multiple s (or_none a)) h
place-is text s (item t more later) c h =
    subst (λ (x : Pictured). place_alignment text s (item t more later) ≡ place_multiple s x) (given-same h) (grind arith)

pub start-is :
    (text : List ℕ) (s : Statement) (kids : Forest) (c : Pictured) (seen : List Place) (base cursor : ℕ) →
    content text s kids ≡ Ok c →
    start text s kids seen base cursor ≡ starts text s (place_multiple s c) seen base cursor
start-is text s kids c seen base cursor h =
    ap (λ (n : ℕ). starts text s n seen base cursor) (place-is text s kids c h)

-- what its place is a multiple of is no more than 8
pub place-small :
    (text : List ℕ) (s : Statement) (kids : Forest) (c : Pictured) →
    content text s kids ≡ Ok c →
    (0 < place_multiple s c) × (place_multiple s c ≤ 8)
place-small text s kids c h =
    let a = place-aligning text s kids in
    let same = place-is text s kids c h in
    (grind (arith, same), grind (arith, same))

-- ---------------------------------------------------------------- a list that is ready

-- what was laid of a list that is ready
pub record LaidRows (text : List ℕ) (w : List Row) (a b depth base : ℕ) (r : LaidList) (w₁ : List Row) : Type 0 where
  pub laid : Laid
  pub is : lay text depth base [] 0 0 (rows_forest w a b) ≡ Ok laid
  pub wide : laid.width ≡ r.width
  pub narrow : r.width ≤ LARGEST
  pub aligned : r.alignment ≡ alignment text (rows_forest w a b)
  pub check : r.checked ≡ fold_check text [] laid.entries
  pub put : put_places text w a 0 laid.entries ≡ w₁

-- the alignment of a list is 1, 2, 4 or 8
pub list-small : (text : List ℕ) (f : Forest) → (0 < alignment text f) × (alignment text f ≤ 8)
list-small text f = let a = list-aligning text f in (grind arith, grind arith)

module _ (text : List ℕ) (w : List Row) (a b depth base : ℕ) where
  abbrev list_is : Forest
  list_is = rows_forest w a b

  abbrev largest_in : ℕ
  largest_in = max 1 (alignment text list_is)

  -- a list begins with no earlier sibling
  list-begins :
      lay_table text w a b depth base ≡ after text w a 0 largest_in (Ok tt) (lay text depth base [] 0 0 list_is)
  unfolding seen_from
  list-begins = refl

  pub laid-rows :
      {r : LaidList} {w₁ : List Row} →
      lay_table text w a b depth base ≡ ready r.width r.alignment r.checked w₁ →
      LaidRows text w a b depth base r w₁
  unfolding seen_from and_then
  laid-rows {r} {w₁} h =
      let g = readied text w a 0 largest_in (Ok tt) (lay text depth base [] 0 0 list_is) (sym list-begins ∙ h) in
      let is = bare-is text list_is depth base [] 0 0 (omega arith) g.is in
      record {
        laid = g.laid;
        is = g.is;
        wide = g.wide;
        narrow = subst (λ (x : ℕ). x ≤ LARGEST) g.wide is.width;
        aligned = sym g.aligned ∙ (let n = list-small text list_is in omega arith);
        check = sym g.check;
        put = g.put;
      }

  pub list-refused :
      {r : Refusal} → lay_table text w a b depth base ≡ stopped r → lay text depth base [] 0 0 list_is ≡ Err r
  list-refused e = stopped-was text w a 0 largest_in (Ok tt) (lay text depth base [] 0 0 list_is) (sym list-begins ∙ e)

  -- what the rows hold of it
  pub record HeldRows (l : Laid) (w₁ : List Row) : Type 0 where
    pub many : entries# l.entries ≡ b - a
    pub held : Held text w₁ a 0 (rows_forest w₁ a b) l.entries

  pub held-rows :
      {r : LaidList} {w₁ : List Row} →
      a ≤ b →
      Room text w a b →
      (n : LaidRows text w a b depth base r w₁) →
      HeldRows n.laid w₁
  held-rows {w₁ = w₁} h room n =
      let f = list_is in
      let is = bare-is text f depth base [] 0 0 (omega arith) n.is in
      let es = n.laid.entries in
      let long = size-stretch w a b in
      let held =
      places-held text f es w a 0 (omega arith) is.of (rows-forest w a (b - a)) room.counted
      (omega (arith, long, room.fits)) in
      let same : f ≡ rows_forest (put_places text w a 0 es) a b = ap forest (sym (statements-places text es w a 0 a (b - a))) in
      let held' : Held text (put_places text w a 0 es) a 0 (rows_forest (put_places text w a 0 es) a b) es = subst (λ (x : Forest). Held text (put_places text w a 0 es) a 0 x es) same held in
      record {
        many = of_size f es is.of ∙ long;
        held = subst (λ (x : List Row). Held text x a 0 (rows_forest x a b) es) n.put held';
      }

-- ---------------------------------------------------------------- the list below an item

-- it is not too deep, and passed its check
pub record InnerRows (text : List ℕ) (w : List Row) (a b depth base : ℕ) (r : LaidList) (w₁ : List Row) : Type 0 where
  pub deep : shallow (suc depth) (rows_forest w a b) ≡ Ok tt
  pub list : LaidRows text w a b (suc depth) base r w₁
  pub passed : r.checked ≡ Ok tt

module _ (text : List ℕ) (w : List Row) (a b depth base : ℕ) where
  pub inner-rows :
      {r : LaidList} {w₁ : List Row} →
      lay_inner text w a b depth base ≡ ready r.width r.alignment r.checked w₁ →
      InnerRows text w a b depth base r w₁
  unfolding lay_inner and_then
  inner-rows {r} {w₁} h =
      through _ _ h λ _ deep h₁.
      through _ _ h₁ λ p table h₂.
      through _ _ h₂ λ _ checked h₃.
      let same : p ≡ (r, w₁) = given-same h₃ in
      let ready_is = table ∙ (λ i. Ok (same i)) in
      record {
        deep = deep;
        list = laid-rows text w a b (suc depth) base ready_is;
        passed = sym (ap (λ (x : LaidList × List Row). x.0.checked) same) ∙ checked;
      }

  -- of no rows it is ready
  pub inner-none : b ≤ a → ready 0 1 (Ok tt) w ≡ lay_inner text w a b depth base
  unfolding lay_inner lay put_places fold_check alignment seen_from and_then
  inner-none h =
      sym
      (ap
      (λ (f : Forest). shallow (suc depth) f >>= λ _. after text w a 0 (max 1 (alignment text f)) (Ok tt) (lay text (suc depth) base [] 0 0 f) >>= checked_list)
      (forest-empty w a b h))

  module _ (h : a < b) where
    -- the rows are a list with a first item
    some-rows :
        {A : Type 0} (f : Forest → A) {x : A} →
        ((s : Statement) (kids later : Forest) → s ≡ statement_at w a → f (item s kids later) ≡ x) →
        f (rows_forest w a b) ≡ x
    some-rows f g =
        let k = children-end w a b h in
        ap f (forest-split w a b _ k) ∙ g (statement_at w a) _ _ refl

    pub inner-deep :
        64 ≤ depth → stopped (Refusal.TooDeep (row_in w a).statement.at) ≡ lay_inner text w a b depth base
    unfolding lay_inner and_then
    inner-deep d =
        let deep : shallow (suc depth) (rows_forest w a b) ≡ Err (Refusal.TooDeep (row_in w a).statement.at) =
        some-rows (shallow (suc depth)) (λ s kids later e. rw (lt-ltb 64 (suc depth) (omega arith), e)) in
        rw deep

    module _ (d : depth < 64) where
      not-deep : shallow (suc depth) (rows_forest w a b) ≡ Ok tt
      not-deep = some-rows (shallow (suc depth)) (λ s kids later e. rw (le-ltb 64 (suc depth) (omega arith)))

      pub inner-list-stop :
          {r : Refusal} → stopped r ≡ lay_table text w a b (suc depth) base → stopped r ≡ lay_inner text w a b depth base
      unfolding lay_inner and_then
      inner-list-stop e = rw (not-deep, ← e)

      module _ (r : LaidList) (w₁ : List Row) (e : ready r.width r.alignment r.checked w₁ ≡ lay_table text w a b (suc depth) base) where
        pub inner-fold-stop : {q : Refusal} → r.checked ≡ Err q → stopped q ≡ lay_inner text w a b depth base
        unfolding lay_inner and_then
        inner-fold-stop c = rw (not-deep, ← e, c)

        pub inner-given :
            {u : Unit {0}} →
            r.checked ≡ Ok u →
            ready r.width r.alignment r.checked w₁ ≡ lay_inner text w a b depth base
        unfolding lay_inner and_then
        inner-given c = rw (not-deep, ← e, c)

  -- a refusal is that of the definition's lines
  pub inner-refused :
      {A : Type 0} (go_on : Laid → Answer A) {r : Refusal} →
      lay_inner text w a b depth base ≡ Err r →
      (shallow (suc depth) (rows_forest w a b) >>= λ _. lay text (suc depth) base [] 0 0 (rows_forest w a b) >>= λ l. fold_check text [] l.entries >>= λ _. go_on l)
      ≡ Err r
  unfolding lay_inner seen_from and_then
  inner-refused {A} go_on {r} h = by-lines (shallow (suc depth) (rows_forest w a b)) (lay text (suc depth) base [] 0 0 (rows_forest w a b)) h
    where
      by-lines :
          (deep : Answer (Unit {0})) (list : Answer Laid) →
          (deep >>= λ _. after text w a 0 (largest_in text w a b depth base) (Ok tt) list >>= checked_list) ≡ Err r →
          (deep >>= λ _. list >>= λ l. fold_check text [] l.entries >>= λ _. go_on l) ≡ Err r
      by-lines (Err q) list e = ap Err (refusal-same e)
      by-lines (Ok u) (Err q) e = ap Err (refusal-same e)
      by-lines (Ok u) (Ok l) e = by-check (fold_check text [] l.entries) e
        where
          by-check :
              (c : Answer (Unit {0})) →
              (c >>= λ _. ready l.width (largest_in text w a b depth base) c (put_places text w a 0 l.entries)) ≡ Err r →
              (c >>= λ _. go_on l) ≡ Err r
          by-check (Err q) e = ap Err (refusal-same e)
          by-check (Ok u) e = absurd (let z : ◌≡◌ {A = ℕ} 0 1 = cc in omega arith)

-- it leaves as many rows
pub inner-long :
    (text : List ℕ) (w : List Row) (a b depth base : ℕ) {r : LaidList} {w₁ : List Row} →
    InnerRows text w a b depth base r w₁ →
    length w₁ ≡ length w
inner-long text w a b depth base n =
    sym (ap (λ (x : List Row). length x) n.list.put) ∙ length-places text n.list.laid.entries w a 0

-- ---------------------------------------------------------------- one item

-- what was found among the earlier siblings stays with the rows below placed
found-after :
    (text : List ℕ) (w : List Row) (i last : ℕ) (b : Beginning) (es : Entries) →
    last ≤ i →
    Found text w i last b →
    Found text (put_places text w (suc i) 0 es) i last b
found-after text w i last b es l f =
    let w₁ = put_places text w (suc i) 0 es in
    let same : (row_in w i).statement ≡ (row_in w₁ i).statement = sym (statement-places text es w (suc i) 0 i) in
    let before : (k : ℕ) → k < last → row_in w k ≡ row_in w₁ k =
    λ k h. sym (before-places text es w (suc i) 0 k (omega arith)) in
    record {
      target = f.target ∙ ap row_of_code (searched_same text false w w₁ i last same before);
      base = f.base ∙ ap row_of_code (searched_same text true w w₁ i last same before);
      plain = f.plain ∙ ap row_of_code (plain-same w w₁ last before);
    }

-- its own place after its members'
own-then :
    (text : List ℕ) (w : List Row) (i last cursor all : ℕ) (b : Beginning) (members : Entries) (a : Answer Entry) →
    Found text (put_places text w (suc i) 0 members) i last b →
    after_own (put_places text w (suc i) 0 members) i last cursor b all a
    ≡ after_item text w i last cursor all (a >>= λ e. Ok (record { own = e; members = members }))
unfolding put_places and_then
own-then text w i last cursor all b members (Err r) f = refl
own-then text w i last cursor all b members (Ok e) f =
    let w₁ = put_places text w (suc i) 0 members in
    λ k. placing (advance cursor e) (entry_end e) all (set w₁ i (placed (row_in w₁ i) (i - last) (f.base k) (f.plain k) (f.target k) e))

module _ (text : List ℕ) (w : List Row) (i j depth base last cursor : ℕ) where
  abbrev of_row : Statement
  of_row = statement_at w i

  abbrev kids_in : Forest
  kids_in = rows_forest w (suc i) j

  -- the children are a list with a first item, or there is none
  some-kids :
      suc i < j →
      {A : Type 0} (f : Forest → A) {x : A} →
      ((s : Statement) (kids later : Forest) → s ≡ statement_at w (suc i) → f (item s kids later) ≡ x) →
      f kids_in ≡ x
  some-kids h f g =
      let k = children-end w (suc i) j h in
      ap f (forest-split w (suc i) j _ k) ∙ g (statement_at w (suc i)) _ _ refl

  pub content-group : suc i < j → content text of_row kids_in ≡ Ok (pictured FieldKind.Group None 0)
  content-group h = some-kids h (λ f. content text of_row f) (λ s kids later e. refl)

  pub content-leaf : j ≤ suc i → content text of_row kids_in ≡ elementary text of_row
  content-leaf h = ap (content text of_row) (forest-empty w (suc i) j h)

  pub content-stop :
      {r : Refusal} →
      content text of_row kids_in ≡ Err r →
      halted r ≡ lay_item text w i j depth base last cursor
  unfolding bare_item and_then
  content-stop e = rw e

  module _ {c : Pictured} (is : content text of_row kids_in ≡ Ok c) where
    abbrev multiple : ℕ
    multiple = place_multiple of_row c

    begins : start text of_row kids_in (seen_at w last) base cursor ≡ starts text of_row multiple (seen_at w last) base cursor
    begins = start-is text of_row kids_in c (seen_at w last) base cursor is

    pub start-stop :
        {r : Refusal} →
        starts text of_row multiple (seen_at w last) base cursor ≡ Err r →
        halted r ≡ lay_item text w i j depth base last cursor
    unfolding bare_item and_then
    start-stop e = rw (is, begins ∙ e)

    module _ {b : Beginning} (begun : Begun text w i multiple base last cursor b) where
      abbrev below_at : ℕ
      below_at = (base + b.offset) % 8

      pub inner-stop :
          {r : Refusal} →
          lay_inner text w (suc i) j depth below_at ≡ Err r →
          halted r ≡ lay_item text w i j depth base last cursor
      unfolding bare_item and_then
      inner-stop e =
          let stops =
          inner-refused text w (suc i) j depth below_at {A = ItemLaid}
          (λ l. placed_entry of_row c cursor b.offset l.width (width_alignment text of_row kids_in) >>= λ x. Ok (record { own = x; members = l.entries })) e in
          rw (is, begins ∙ begun.starts, lay-remainder text kids_in (suc depth) (base + b.offset) [] 0 0, stops)

      module _ {r : LaidList} {w₁ : List Row} (n : InnerRows text w (suc i) j depth below_at r w₁) where
        bare-laid :
            bare_item text depth base (seen_at w last) cursor of_row kids_in
            ≡ (placed_entry of_row c cursor b.offset r.width (width_alignment text of_row kids_in) >>= λ e. Ok (record { own = e; members = n.list.laid.entries }))
        unfolding bare_item and_then
        bare-laid =
            rw (is, begins ∙ begun.starts, lay-remainder text kids_in (suc depth) (base + b.offset) [] 0 0, n.deep, n.list.is, sym n.list.check ∙ n.passed, n.list.wide)

        pub item-place : last ≤ i → place_row w₁ i last cursor b c r ≡ lay_item text w i j depth base last cursor
        item-place l =
            let es = n.list.laid.entries in
            let w₂ = put_places text w (suc i) 0 es in
            let all = item_alignment text of_row kids_in in
            let made = placed_entry of_row c cursor b.offset r.width (width_alignment text of_row kids_in) in
            ap (λ (x : List Row). place_row x i last cursor b c r) (sym n.list.put)
            ∙ ap
            (λ (s : Statement). after_own w₂ i last cursor b (max (place_multiple s c) r.alignment)
            (placed_entry s c cursor b.offset r.width (width_multiple s r.alignment)))
            (statement-places text es w (suc i) 0 i)
            ∙ ap
            (λ (x : ℕ). after_own w₂ i last cursor b (max multiple x)
            (placed_entry of_row c cursor b.offset r.width (width_multiple of_row x)))
            n.list.aligned
            ∙ ap (λ (x : ℕ). after_own w₂ i last cursor b (max x (alignment text kids_in)) made) (sym (place-is text of_row kids_in c is))
            ∙ own-then text w i last cursor all b es made (found-after text w i last b es l begun.found)
            ∙ sym (ap (after_item text w i last cursor all) bare-laid)
