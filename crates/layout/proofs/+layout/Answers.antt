use borrow.Author.Rules.{rules}
use Prim.Native.Nat.{ℕ, suc, ◌+◌, ◌-◌, ◌%◌, max, ◌≤◌, ◌<◌}
use mathlib.Core.Path.{◌≡◌, refl, sym, ap, subst, ◌∙◌}
use mathlib.Core.List.{List}
use native.Mathlib.Numerals.{add-one}
use native.Mathlib.Omega.{arith}
use lib.Dec.{ltb}
use lib.ListN.{length}
use Rattle.std.specs.Prelude.{None, if◌then◌else◌}
use Rattle.std.specs.Ordering.{ord_max, nat_cmp}
use Rattle.std.specs.Result.{result_and}
use Rattle.std.proofs.lemmas.Bool.Decides.{nat_tests}
use Rattle.definition.specs.declared.FieldKind.{FieldKind}
use Rattle.definition.specs.declared.Pictured.{Pictured}
use Rattle.definition.specs.declared.Refusal.{Refusal}
use Rattle.definition.specs.declared.Statement.{Statement}
use Rattle.definition.specs.declared.TheConstants.{LARGEST}
use Rattle.definition.specs.Tree.{Forest}
use Rattle.definition.specs.Picture.{pictured}
use Rattle.definition.specs.Storage.{elementary}
use Rattle.definition.specs.Layout.{content}
use Rattle.definition.specs.Basic.{Answer, Err, Ok, ◌>>=◌, and_then}
use Rattle.definition.proofs.Answers.{handed_on}
use Rattle.definition.proofs.Lists.{tested}
use Rattle.rows.specs.declared.Row.{Row}
use Rattle.rows.specs.Rows.{statement_at, row_in, row_code}
use Rattle.layout.specs.Children.{ChildrenEnd, Numbered}
use Rattle.layout.specs.Places.{rows_forest}
use Rattle.layout.specs.Targets.{seen_at}
use Rattle.layout.specs.Bare.{place_multiple, starts}
use Rattle.layout.specs.Checks.{check_row}
use Rattle.layout.specs.declared.Beginning.{Beginning}
use Rattle.layout.specs.declared.LaidItem.{LaidItem}
use Rattle.layout.specs.declared.LaidList.{LaidList}
use Rattle.layout.specs.Outcomes.{Outcome, stopped, ready, lay_table, lay_inner, halted, placing, lay_item, Begun}
use Rattle.layout.specs.Outcomes.{place_row, Room}
use Rattle.layout.proofs.ContentLaws.{content-bounded}
use Rattle.layout.proofs.EntriesLaws.{counted_step, counted-numbered}
use Rattle.layout.proofs.FingerprintLaws.{fingerprinted-less}
use Rattle.layout.proofs.LayLaws.{list-stop, list-step, list-none, item-within, item_room, placed-low, place-small}
use Rattle.layout.proofs.LayLaws.{inner-none, inner-deep, inner-list-stop, inner-fold-stop, inner-given, InnerRows, inner-rows}
use Rattle.layout.proofs.LayLaws.{list-small, inner-long, content-group, content-leaf, content-stop, start-stop, inner-stop}
use Rattle.layout.proofs.LayLaws.{item-place}
use Rattle.layout.proofs.+layout.Invariants.{Laying}
use Rattle.layout.proofs.+layout.Goals as goal
use Rattle.layout.proofs.+layout.Goals.{lay_item-In_ok-inner}

-- the library's larger number
larger : (a b : ℕ) {r : ℕ} → r ≡ ord_max nat_cmp a b → r ≡ max a b
larger a b e = grind (arith, nat_tests)

-- of two checks, the second one where the first passes
both : (a b : Answer (Unit {0})) → result_and a b ≡ (a >>= λ _. b)
unfolding and_then
both (Err r) b = refl
both (Ok x) b = refl

-- ---------------------------------------------------------------- the list

module _
    {t : List ℕ} {w₀ w : List Row} {from to depth base i last cursor reach largest : ℕ} {checked : Answer (Unit {0})}
    (inv : Laying t w₀ w from to depth base i last cursor reach largest checked)
  where
    numbered : i < to → {v : List Row} {count : ℕ} → (v ≡ w) × (count ≡ to) → Numbered v i count
    numbered h e = rw (e.0, e.1) (counted-numbered w i to inv.room.fits h inv.room.counted)

    module _ {b : ℕ} (pb : b ≡ base) where
      -- the list's own place
      here : {o : Outcome LaidItem} (j : ℕ) → o ≡ lay_item t w i j depth b last cursor → lay_item t w i j depth base last cursor ≡ o
      here j p = sym (p ∙ ap (λ (n : ℕ). lay_item t w i j depth n last cursor) pb)

      -- the next item's cursor
      cursor-low :
          cursor ≤ LARGEST →
          (x : LaidItem) (j : ℕ) (w' : List Row) →
          placing x.cursor x.end x.alignment w' ≡ lay_item t w i j depth b last cursor →
          x.cursor ≤ LARGEST
      cursor-low h x j w' p = item-within t w i j depth base last cursor h (here j p)

      going_on :
          (x : LaidItem) {r a j later moved : ℕ} {w' : List Row} →
          ChildrenEnd w i to j →
          placing x.cursor x.end x.alignment w' ≡ lay_item t w i j depth b last cursor →
          length w' ≡ length w →
          (later ≡ i + 1) × (moved ≡ x.cursor) →
          r ≡ max reach x.end →
          a ≡ max largest x.alignment →
          {d : Answer (Unit {0})} →
          d ≡ (checked >>= λ _. check_row w' i) →
          Laying t w₀ w' from to depth base j later moved r a d
      going_on x {j = j} {w' = w'} h p l n m z k =
          let laid = here j p in
          rw (n.0, n.1)
          (record {
            same_length = l ∙ inv.same_length;
            room = item_room t w i to j depth base last cursor h laid l inv.room;
            back = omega (arith, h.low);
            some = omega (arith, inv.some, z);
            rest = rw (add-one i, m, z, k) (inv.rest ∙ list-step t w i to j depth base last cursor reach largest checked h inv.room.fits inv.back laid);
          })

      -- the base of the item that was placed is an earlier row
      base-here :
          (x : LaidItem) {j : ℕ} (w' : List Row) →
          ChildrenEnd w i to j →
          placing x.cursor x.end x.alignment w' ≡ lay_item t w i j depth b last cursor →
          row_code (row_in w' i).place.base ≤ i
      base-here x {j} w' h p =
          placed-low t w i to j depth base last cursor reach largest checked h inv.room.fits inv.back (here j p)

      stopping :
          {r : Refusal} {j : ℕ} →
          ChildrenEnd w i to j →
          halted r ≡ lay_item t w i j depth b last cursor →
          stopped r ≡ lay_table t w₀ from to depth base
      stopping {j = j} h p =
          sym (inv.rest ∙ list-stop t w i to j depth base last cursor reach largest checked h (here j p))

    ending : to ≤ i → ready reach largest checked w ≡ lay_table t w₀ from to depth base
    ending h = sym (inv.rest ∙ list-none t w i to depth base last cursor reach largest checked inv.some h)

-- the rows below an item
room-part : {t : List ℕ} {w : List Row} {i to j : ℕ} → Room t w i to → ChildrenEnd w i to j → Room t w (i + 1) j
room-part {w = w} {i = i} {to = to} {j = j} r h =
    record {
      fits = omega (arith, r.fits, h.high);
      small = omega (arith, r.small, h.high);
      fingerprinted = fingerprinted-less r.fingerprinted h.high;
      counted = rw (add-one i) (counted_step w i to j h r.counted).1;
    }

-- ---------------------------------------------------------------- the list below an item

-- one deeper, where depth is left
deeper : (left : ℕ) → (left ≡ 0 → ⊥) → left ≤ 64 → 64 - (left - 1) ≡ suc (64 - left)
deeper left z f = omega arith

pub lay_inner-returns-then-to-from : goal.lay_inner-returns-then-to-from
lay_inner-returns-then-to-from t c =
    let a = c.args in inner-none a.text.now a.rows.now a.from a.to (64 - a.depth_left) a.base c.if-to-from.true

pub lay_inner-returns-then-depth_left-eq0 : goal.lay_inner-returns-then-depth_left-eq0
lay_inner-returns-then-depth_left-eq0 t c =
    let a = c.args in
    ap (λ (n : ℕ). stopped (Refusal.TooDeep n)) c.from-position.ensures
    ∙ inner-deep a.text.now a.rows.now a.from a.to (64 - a.depth_left) a.base c.if-to-from.false
    (omega (arith, c.if-depth_left-eq0.true))

pub lay_inner-returns-in_err-inner : goal.lay_inner-returns-in_err-inner
lay_inner-returns-in_err-inner t c =
    let a = c.args in
    rw (handed_on _ c.from_residual.ensures.1)
    (inner-list-stop a.text.now a.rows.now a.from a.to (64 - a.depth_left) a.base c.if-to-from.false (omega (arith, c.if-depth_left-eq0.false, c.requires.1))
    (c.in_err-inner.ensures ∙ ap (λ (d : ℕ). lay_table a.text.now a.rows.now a.from a.to d a.base) (deeper a.depth_left c.if-depth_left-eq0.false c.requires.1)))

pub lay_inner-returns-in_err-inner-2 : goal.lay_inner-returns-in_err-inner-2
lay_inner-returns-in_err-inner-2 t c =
    let a = c.args in
    rw (handed_on _ c.from_residual-in_err-inner-2.ensures.1)
    (inner-fold-stop a.text.now a.rows.now a.from a.to (64 - a.depth_left) a.base c.if-to-from.false (omega (arith, c.if-depth_left-eq0.false, c.requires.1))
    c.in_ok-inner.inner c.lay_list.new.rows
    (c.in_ok-inner.ensures ∙ ap (λ (d : ℕ). lay_table a.text.now a.rows.now a.from a.to d a.base) (deeper a.depth_left c.if-depth_left-eq0.false c.requires.1))
    c.in_err-inner-2.was)

pub lay_inner-returns : goal.lay_inner-returns
lay_inner-returns t c =
    let a = c.args in
    inner-given a.text.now a.rows.now a.from a.to (64 - a.depth_left) a.base c.if-to-from.false (omega (arith, c.if-depth_left-eq0.false, c.requires.1))
    c.in_ok-inner.inner c.lay_list.new.rows
    (c.in_ok-inner.ensures ∙ ap (λ (d : ℕ). lay_table a.text.now a.rows.now a.from a.to d a.base) (deeper a.depth_left c.if-depth_left-eq0.false c.requires.1))
    c.in_ok-inner-2.was

-- ---------------------------------------------------------------- the item

module _ (t : List ℕ) (w : List Row) (i j depth base last cursor : ℕ) where
  abbrev own : Statement
  own = statement_at w i

  abbrev kids : Forest
  kids = rows_forest w (suc i) j

  content-is :
      content t own kids ≡ (if ltb (i + 1) j then Ok (pictured FieldKind.Group None 0) else elementary t own)
  content-is =
      tested (i + 1) j
      (λ p l. rw p (content-group t w i j depth base last cursor (omega arith)))
      (λ p l. rw p (content-leaf t w i j depth base last cursor (omega arith)))

  content-halts :
      {r : Refusal} →
      Err r ≡ (if ltb (i + 1) j then Ok (pictured FieldKind.Group None 0) else elementary t own) →
      halted r ≡ lay_item t w i j depth base last cursor
  content-halts e = content-stop t w i j depth base last cursor (content-is ∙ sym e)

  module _ {c : Pictured} (e : Ok c ≡ (if ltb (i + 1) j then Ok (pictured FieldKind.Group None 0) else elementary t own)) where
    has : content t own kids ≡ Ok c
    has = content-is ∙ sym e

    narrow : c.width ≤ LARGEST
    narrow = omega (arith, (content-bounded t own kids has).width)

    module _ {m : ℕ} (pm : m ≡ place_multiple own c) where
      multiple-small : (0 < m) × (m ≤ 8)
      multiple-small = let z = place-small t own kids c has in (omega (arith, z.0, pm), omega (arith, z.1, pm))

      start-halts :
          {r : Refusal} →
          starts t own m (seen_at w last) base cursor ≡ Err r →
          halted r ≡ lay_item t w i j depth base last cursor
      start-halts q =
          start-stop t w i j depth base last cursor has
          (ap (λ (n : ℕ). starts t own n (seen_at w last) base cursor) (sym pm) ∙ q)

      module _ {b : Beginning} (begun : Begun t w i m base last cursor b) {n : ℕ} (pn : n ≡ (base + b.offset) % 8) where
        begun_is : Begun t w i (place_multiple own c) base last cursor b
        begun_is = subst (λ (x : ℕ). Begun t w i x base last cursor b) pm begun

        below : {o : Outcome LaidList} → o ≡ lay_inner t w (i + 1) j depth n → lay_inner t w (suc i) j depth ((base + b.offset) % 8) ≡ o
        below p =
            sym (p ∙ ap (λ (x : ℕ). lay_inner t w x j depth n) (add-one i) ∙ ap (lay_inner t w (suc i) j depth) pn)

        inner-halts :
            {r : Refusal} →
            stopped r ≡ lay_inner t w (i + 1) j depth n →
            halted r ≡ lay_item t w i j depth base last cursor
        inner-halts p = inner-stop t w i j depth base last cursor has begun_is (below p)

        module _ {x : LaidList} {w₁ : List Row} (p : ready x.width x.alignment x.checked w₁ ≡ lay_inner t w (i + 1) j depth n) where
          inner_is : InnerRows t w (suc i) j depth ((base + b.offset) % 8) x w₁
          inner_is = inner-rows t w (suc i) j depth ((base + b.offset) % 8) (below p)

          aligned : (0 < x.alignment) × (x.alignment ≤ 8)
          aligned =
              let z = list-small t kids in
              (omega (arith, z.0, inner_is.list.aligned), omega (arith, z.1, inner_is.list.aligned))

          long : length w₁ ≡ length w
          long = inner-long t w (suc i) j depth ((base + b.offset) % 8) inner_is

          placed-so : {o : Outcome LaidItem} → last ≤ i → o ≡ place_row w₁ i last cursor b c x → o ≡ lay_item t w i j depth base last cursor
          placed-so l q = q ∙ item-place t w i j depth base last cursor has begun_is inner_is l

pub lay_item-returns-in_err-c : goal.lay_item-returns-in_err-c
lay_item-returns-in_err-c t c =
    let a = c.args in
    rw (handed_on _ c.from_residual.ensures.1)
    (content-halts a.text.now a.rows.now a.i a.j (64 - a.depth_left) a.next.base a.next.last a.next.cursor c.in_err-c.ensures)

pub lay_item-begin-requires : goal.lay_item-begin-requires
lay_item-begin-requires t c =
    let a = c.args in
    let r = c.requires in
    let m = multiple-small a.text.now a.rows.now a.i a.j (64 - a.depth_left) a.next.base a.next.last a.next.cursor c.in_ok-c.ensures c.place_multiple.ensures in (
      omega (arith, r.0, r.1.fits),
      r.3,
      m.0,
      omega (arith, m.1),
      fingerprinted-less r.1.fingerprinted (omega (arith, r.0)),
      omega (arith, r.0, r.1.small),
    )

pub lay_item-returns-in_err-begun : goal.lay_item-returns-in_err-begun
lay_item-returns-in_err-begun t c =
    let a = c.args in
    rw (handed_on _ c.from_residual-in_err-begun.ensures.1)
    (start-halts a.text.now a.rows.now a.i a.j (64 - a.depth_left) a.next.base a.next.last a.next.cursor c.in_ok-c.ensures c.place_multiple.ensures
    c.in_err-begun.ensures)

pub lay_item-returns-in_err-inner : goal.lay_item-returns-in_err-inner
lay_item-returns-in_err-inner t c =
    let a = c.args in
    rw (handed_on _ c.from_residual-in_err-inner.ensures.1)
    (inner-halts a.text.now a.rows.now a.i a.j (64 - a.depth_left) a.next.base a.next.last a.next.cursor c.in_ok-c.ensures c.place_multiple.ensures
    c.in_ok-begun.ensures c.base_at.ensures.0 c.in_err-inner.ensures)

pub lay_item-place_item-requires : goal.lay_item-place_item-requires
lay_item-place_item-requires t c =
    let a = c.args in
    let r = c.requires in
    let x = c.in_ok-inner.inner in
    let n = aligned a.text.now a.rows.now a.i a.j (64 - a.depth_left) a.next.base a.next.last a.next.cursor c.in_ok-c.ensures c.place_multiple.ensures
    c.in_ok-begun.ensures c.base_at.ensures.0 {x = x} c.in_ok-inner.ensures in
    let i = inner_is a.text.now a.rows.now a.i a.j (64 - a.depth_left) a.next.base a.next.last a.next.cursor c.in_ok-c.ensures c.place_multiple.ensures
    c.in_ok-begun.ensures c.base_at.ensures.0 {x = x} c.in_ok-inner.ensures in
    let l = long a.text.now a.rows.now a.i a.j (64 - a.depth_left) a.next.base a.next.last a.next.cursor c.in_ok-c.ensures c.place_multiple.ensures
    c.in_ok-begun.ensures c.base_at.ensures.0 {x = x} c.in_ok-inner.ensures in (
      omega (arith, r.0, r.1.fits, l),
      r.3,
      omega (arith, r.0, r.1.small),
      narrow a.text.now a.rows.now a.i a.j (64 - a.depth_left) a.next.base a.next.last a.next.cursor c.in_ok-c.ensures,
      i.list.narrow,
      n.0,
      n.1,
    )

pub lay_item-returns : goal.lay_item-returns
lay_item-returns t c =
    let a = c.args in
    placed-so a.text.now a.rows.now a.i a.j (64 - a.depth_left) a.next.base a.next.last a.next.cursor c.in_ok-c.ensures c.place_multiple.ensures
    c.in_ok-begun.ensures c.base_at.ensures.0 {x = c.in_ok-inner.inner} c.in_ok-inner.ensures c.requires.3 c.place_item.ensures

-- ---------------------------------------------------------------- the goals of `lay_list`

pub lay_list-next_of-j-requires : goal.lay_list-next_of-j-requires
lay_list-next_of-j-requires t c = numbered c.loop-i.invariant.1 c.loop-i-test.true c.new.ensures

pub lay_list-lay_item-requires : goal.lay_list-lay_item-requires
lay_list-lay_item-requires t c =
    let e = rw (c.new.ensures.0, c.new.ensures.1) at c.next_of-j.ensures in
    (search rules, (omega (arith, e.low), room-part c.loop-i.invariant.1.room e, search rules, search rules))

pub lay_list-at-next-requires-in-loop-i : goal.lay_list-at-next-requires-in-loop-i
lay_list-at-next-requires-in-loop-i t c = (
  c.requires.2,
  cursor-low c.loop-i.invariant.1 c.loop-i.invariant.0 c.loop-i.next.within.1 c.in_ok-item.item _ c.lay_item.new.rows c.in_ok-item.ensures,
)

pub lay_list-check_row-requires : goal.lay_list-check_row-requires
lay_list-check_row-requires t c =
    let n = c.new-in-loop-i.ensures in
    rw (n.0, n.1) (
      c.loop-i-test.true,
      base-here c.loop-i.invariant.1 c.loop-i.invariant.0 c.in_ok-item.item c.lay_item.new.rows (rw (c.new.ensures.0, c.new.ensures.1) at c.next_of-j.ensures) c.in_ok-item.ensures,
    )

pub lay_list-loop-i-preserved : goal.lay_list-loop-i-preserved
lay_list-loop-i-preserved t c = (
  c.at-next-in-loop-i.ensures.0,
  going_on c.loop-i.invariant.1 c.loop-i.invariant.0 c.in_ok-item.item (rw (c.new.ensures.0, c.new.ensures.1) at c.next_of-j.ensures) c.in_ok-item.ensures
      c.lay_item.auto.rows (c.at-next-in-loop-i.ensures.1, c.at-next-in-loop-i.ensures.2) (larger c.loop-i.reach c.in_ok-item.item.end c.max-reach.ensures)
      (larger c.loop-i.alignment c.in_ok-item.item.alignment c.max-alignment.ensures)
      (c.and-checked.ensures
      ∙ both c.loop-i.checked c.check_row.result
      ∙ ap (λ (d : Answer (Unit {0})). c.loop-i.checked >>= λ _. d) (rw c.new-in-loop-i.ensures.0 at c.check_row.ensures)),
)

pub lay_list-returns-in_err-item : goal.lay_list-returns-in_err-item
lay_list-returns-in_err-item t c =
    rw (handed_on _ c.from_residual.ensures.1)
    (stopping c.loop-i.invariant.1 c.loop-i.invariant.0 (rw (c.new.ensures.0, c.new.ensures.1) at c.next_of-j.ensures) c.in_err-item.ensures)

pub lay_list-returns : goal.lay_list-returns
lay_list-returns t c = ending c.loop-i.invariant.1 c.loop-i-test.false
