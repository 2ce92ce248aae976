-- What the functions that build the table need and learn, over plain variables: what a row comes to, the members of a
-- union, the loop along the rows of a list and the loop along the redefiners of a row.
-- Assumes nothing.
use Prim.Native.Nat.{ℕ, suc, ◌+◌, ◌-◌, ◌≤◌, ◌<◌}
use mathlib.Core.Path.{◌≡◌, refl, sym, ap, subst, ◌∙◌}
use mathlib.Core.Bool.{Bool, true, false}
use Rattle.std.specs.Prelude.{Option, None, Some}
use mathlib.Core.List.{List}
use native.Mathlib.Numerals.{add-one}
use native.Mathlib.Omega.{arith}
use Rattle.definition.specs.declared.Entry.{Entry}
use Rattle.std.specs.Prelude.{if◌then◌else◌}
use Rattle.definition.specs.Fold.{Entries, end, entry, append, rebased, redefiners, widest, union, union_members}
use Rattle.definition.specs.Fold.{with_redefiners, folded_list, folded_below, folded_all}
use Rattle.definition.specs.Search.{entries#}
use Rattle.rows.specs.declared.Row.{Row}
use Rattle.rows.specs.Rows.{row_of_code, row_code, row_in, before_in}
use Rattle.rows.proofs.RowLaws.{row-none, row-some, code-back}
use Rattle.layout.specs.Targets.{bases_at, place_at}
use Rattle.layout.specs.Places.{entry_in}
use Rattle.layout.specs.Children.{ChildrenEnd, Numbered}
use Rattle.layout.proofs.RowLaws.{children-end}
use Rattle.layout.specs.declared.unions.Standing.{Standing}
use Rattle.layout.specs.Shown.{standing, shown_as, list_in, redefiners_in, folded_rest, shown_at, Known, Tree, Branch, Base}
use Rattle.layout.proofs.FoldedLaws.{append-end, append-append, redefiners-below}
use Rattle.layout.proofs.ShownLaws.{list-none, walking_here, walking-ends}
use Rattle.layout.proofs.WidthLaws.{Along, along-starts, along-before, along-on, Next}
use Rattle.layout.proofs.WidthLaws.{Onward, Following, following-starts, following-none, following-next}
use Rattle.layout.proofs.WidthLaws.{next-numbered, next-sibling, next-is, next-on}
use Rattle.fold.specs.declared.entries.Block.{Block}
use Rattle.fold.specs.declared.table.TableEntry.{TableEntry}
use Rattle.fold.specs.Entered.{listed}
use Rattle.fold.specs.Building.{item_in, redefined, union_in, own_member, based_in, TableRoom, Built}
use Rattle.fold.proofs.FlatLaws.{size-append}
use Rattle.fold.proofs.BuildLaws.{built-none, built-as, built-wider, ◌then◌, room-rest, room-first, room-part}

-- ---------------------------------------------------------------- what a row comes to

-- no rows
pub listed-none : (t : List ℕ) (w : List Row) (a b : ℕ) → b ≤ a → listed t w a b ≡ end
unfolding folded_below folded_list
listed-none t w a b h = ap (folded_all t) (list-none w a b h)

-- a base with some redefiners
with-union :
    (t : List ℕ) (e : Entry) (ms rs : Entries) {r : Entry} {m more : Entries} →
    rs ≡ entry r m more →
    with_redefiners t e ms rs end ≡ entry (union e (widest (union_members t e ms rs))) (union_members t e ms rs) end
with-union t e ms rs q =
    subst (λ (x : Entries). with_redefiners t e ms x end ≡ entry (union e (widest (union_members t e ms x))) (union_members t e ms x) end) (sym q) refl

module _ (t : List ℕ) (w : List Row) (i j to : ℕ) where
  -- its members, at the code's i + 1
  at_next : (e : Entry) (later : Entries) → entry e (folded_all t (list_in w (suc i) j)) later ≡ entry e (listed t w (i + 1) j) later
  at_next e later = ap (λ (n : ℕ). entry e (listed t w n j) later) (sym (add-one i))

  later-redefiners : redefiners t (place_at w i) (folded_below t (list_in w j to)) ≡ redefined t w i j to
  later-redefiners = redefiners-below t (place_at w i) (list_in w j to)

  module _ (last : ℕ) {s : Standing} (p : s ≡ standing t (bases_at w last) (entry_in w i)) where
    shown-is : (x : Standing) → s ≡ x → shown_at t w i j to last ≡ shown_as t x (entry_in w i) (folded_all t (list_in w (suc i) j)) (folded_below t (list_in w j to))
    shown-is x e = ap (λ (y : Standing). shown_as t y (entry_in w i) (folded_all t (list_in w (suc i) j)) (folded_below t (list_in w j to))) (sym p ∙ e)

    pub shown-under : s ≡ Standing.Under → shown_at t w i j to last ≡ end
    shown-under e = shown-is Standing.Under e

    pub shown-alone : s ≡ Standing.Alone → shown_at t w i j to last ≡ item_in t w i j None
    shown-alone e = shown-is Standing.Alone e ∙ at_next (entry_in w i) end

    module _ (e : s ≡ Standing.Base) (b : Base t w i j to) where
      pub shown-base : row_of_code (row_code (row_in w i).place.next) ≡ None → shown_at t w i j to last ≡ item_in t w i j None
      unfolding folded_below
      shown-base h =
          shown-is Standing.Base e
          ∙ ap (λ (rs : Entries). with_redefiners t (entry_in w i) (folded_all t (list_in w (suc i) j)) rs end)
          (later-redefiners ∙ ap (folded_below t) (following-none (following-starts b refl) (omega (arith, row-none h))))
          ∙ at_next (entry_in w i) end

      pub shown-union : {row : ℕ} → row_of_code (row_code (row_in w i).place.next) ≡ Some row → shown_at t w i j to last ≡ entry (union (entry_in w i) (widest (union_in t w i j to))) (union_in t w i j to) end
      unfolding folded_below
      shown-union h =
          let f = following-starts b refl in
          let x = following-next f (omega (arith, row-some h)) in
          shown-is Standing.Base e
          ∙ with-union t (entry_in w i) (folded_all t (list_in w (suc i) j)) (redefiners t (place_at w i) (folded_below t (list_in w j to)))
          (later-redefiners ∙ ap (folded_below t) (next-is f x (children-end w (row_code (row_in w i).place.next - 1) to x.high)))

  -- ---------------------------------------------------------------- the members of a union

  module _ {o : Bool} (p : o ≡ own_member t w i j) where
    union-is :
        (b : Bool) →
        o ≡ b →
        union_in t w i j to
        ≡ (if b then append (folded_all t (list_in w (suc i) j)) (redefined t w i j to)
        else entry (rebased (row_in w i).place.offset (entry_in w i)) (folded_all t (list_in w (suc i) j)) (redefined t w i j to))
    union-is b e =
        ap (union_members t (entry_in w i) (folded_all t (list_in w (suc i) j))) later-redefiners
        ∙ ap (λ (x : Bool). if x then append (folded_all t (list_in w (suc i) j)) (redefined t w i j to)
        else entry (rebased (row_in w i).place.offset (entry_in w i)) (folded_all t (list_in w (suc i) j)) (redefined t w i j to)) (sym p ∙ e)

    members-folded : o ≡ true → union_in t w i j to ≡ append (listed t w (i + 1) j) (redefined t w i j to)
    members-folded e = union-is true e ∙ ap (λ (n : ℕ). append (listed t w n j) (redefined t w i j to)) (sym (add-one i))

    members-based : o ≡ false → {start : ℕ} → start ≡ (row_in w i).place.offset → union_in t w i j to ≡ append (item_in t w i j (Some start)) (redefined t w i j to)
    unfolding append
    members-based e {start} q =
        union-is false e
        ∙ at_next (rebased (row_in w i).place.offset (entry_in w i)) (redefined t w i j to)
        ∙ ap (λ (n : ℕ). entry (rebased n (entry_in w i)) (listed t w (i + 1) j) (redefined t w i j to)) (sym q)

    -- what the base gives to them
    pub based-folded : o ≡ true → based_in t w i j ≡ listed t w (i + 1) j
    based-folded e =
        ap (λ (x : Bool). if x then listed t w (i + 1) j else item_in t w i j (Some (row_in w i).place.offset)) (sym p ∙ e)

    pub based-alone : o ≡ false → {start : ℕ} → start ≡ (row_in w i).place.offset → based_in t w i j ≡ item_in t w i j (Some start)
    based-alone e {start} q =
        ap (λ (x : Bool). if x then listed t w (i + 1) j else item_in t w i j (Some (row_in w i).place.offset)) (sym p ∙ e)
        ∙ ap (λ (n : ℕ). item_in t w i j (Some n)) (sym q)

  -- what the base gives to them, and then the redefiners
  pub union-based : union_in t w i j to ≡ append (based_in t w i j) (redefined t w i j to)
  union-based = by-own (own_member t w i j) refl
    where
      by-own : (b : Bool) → own_member t w i j ≡ b → union_in t w i j to ≡ append (based_in t w i j) (redefined t w i j to)
      by-own true e = members-folded refl e ∙ ap (λ (xs : Entries). append xs (redefined t w i j to)) (sym (based-folded refl e))
      by-own false e = members-based refl e refl ∙ ap (λ (xs : Entries). append xs (redefined t w i j to)) (sym (based-alone refl e refl))

-- ---------------------------------------------------------------- two parts, one after the other

module _ {es : Entries} (xs ys : Entries) (e : es ≡ append xs ys) {out : List TableEntry} {b : Block} {to : ℕ} (h : TableRoom out b (entries# es) to) where
  sizes : entries# es ≡ entries# xs + entries# ys
  sizes = ap entries# e ∙ size-append xs ys

  pub first-room : TableRoom out b (entries# xs) to
  first-room = room-first (entries# xs) (entries# ys) sizes h

  module _ {low high : ℕ} {w : List Row} {r : Block} {after : List TableEntry} (p : Built low high w out b xs r after) where
    pub second-room : TableRoom after r (entries# ys) to
    second-room = room-rest p (entries# ys) sizes h

    pub both-built :
        {r' : Block} {after' : List TableEntry} → Built low high w after r ys r' after' → Built low high w out b es r' after'
    both-built q = built-as e (p then q)

pub room_as : {es fs : Entries} → es ≡ fs → {out : List TableEntry} {b : Block} {to : ℕ} → TableRoom out b (entries# es) to → TableRoom out b (entries# fs) to
room_as e {out} {b} {to} h = subst (λ (x : Entries). TableRoom out b (entries# x) to) e h

-- ---------------------------------------------------------------- the list

-- what the loop keeps: what is done is built
pub record Listing (t : List ℕ) (w : List Row) (out₀ out : List TableEntry) (from to : ℕ) (b₀ : Block) (i : ℕ) (b : Block) : Type 0 where
  pub last : ℕ
  pub done : Entries
  pub along : Along t w from to i last done
  pub room : TableRoom out₀ b₀ (entries# (listed t w from to)) to
  pub built : Built from to w out₀ b₀ done b out

pub listing-starts :
    (t : List ℕ) (w : List Row) (out : List TableEntry) (from to : ℕ) (b : Block) →
    Tree t w from to →
    TableRoom out b (entries# (listed t w from to)) to →
    {i : ℕ} →
    i ≡ from →
    Listing t w out out from to b i b
listing-starts t w out from to b h f {i} e =
    subst (λ (k : ℕ). Listing t w out out from to b k b) (sym e)
    (record { last = 0; done = end; along = along-starts t w from to h; room = f; built = built-none w out b f.narrow })

module _ {t : List ℕ} {w : List Row} {out₀ out : List TableEntry} {from to : ℕ} {b₀ : Block} {i : ℕ} {b : Block} (inv : Listing t w out₀ out from to b₀ i b) where
  pub listing-ends : to ≤ i → Built from to w out₀ b₀ (listed t w from to) b out
  listing-ends h = built-as (walking-ends inv.along.walk h) inv.built

  -- row i is the next sibling
  module _ {row j : ℕ} (at : row ≡ i) (h : ChildrenEnd w i to j) where
    pub listing-falls : to - row < suc (to - from)
    listing-falls = omega (arith, at, inv.along.low)

    shown-here : shown_at t w i j to inv.last ≡ shown_at t w row j to (before_in w row)
    shown-here =
        ap (shown_at t w i j to) (sym (along-before inv.along h))
        ∙ ap (λ (k : ℕ). shown_at t w k j to (before_in w k)) (sym at)

    pub listing-room : TableRoom out b (entries# (shown_at t w row j to (before_in w row))) to
    listing-room =
        let shown = shown_at t w i j to inv.last in
        let rest = folded_rest t w j to (suc i) in
        room_as shown-here
        (first-room shown rest refl (second-room inv.done (append shown rest) (walking_here inv.along.walk h) inv.room inv.built))

    pub listing-on :
        {r : Block} {after : List TableEntry} →
        Built row to w out b (shown_at t w row j to (before_in w row)) r after →
        {k : ℕ} →
        k ≡ j →
        Listing t w out₀ after from to b₀ k r
    listing-on {r} {after} p {k} q =
        subst (λ (x : ℕ). Listing t w out₀ after from to b₀ x r) (sym q)
        (record {
          last = i + 1;
          done = append inv.done (shown_at t w i j to inv.last);
          along = along-on inv.along h;
          room = inv.room;
          built = inv.built then built-wider from to (omega (arith, at, inv.along.low)) (omega arith) (built-as shown-here p);
        })

-- ---------------------------------------------------------------- the redefiners

-- what the loop keeps: what is done is built, and those of the rows from `at` on, of which `next` is the first, are the
-- rest
pub record Redefining
    (t : List ℕ) (w : List Row) (out₀ out : List TableEntry) (i j to : ℕ) (b₀ b : Block) (next : Option ℕ) : Type 0 where
  pub at : ℕ
  pub following : Following t w i j to at (row_code next)
  pub room : TableRoom out₀ b₀ (entries# (redefined t w i j to)) to
  pub done : Entries
  pub built : Built i to w out₀ b₀ done b out
  pub same : redefined t w i j to ≡ append done (redefined t w i at to)

code-of : (w : List Row) (row : ℕ) {next : Option ℕ} → next ≡ row_of_code (row_code (row_in w row).place.next) → row_code next ≡ row_code (row_in w row).place.next
code-of w row e = ap row_code e ∙ code-back (row_code (row_in w row).place.next)

pub redefining-starts :
    (t : List ℕ) (w : List Row) (out : List TableEntry) (i j to : ℕ) (b : Block) {next : Option ℕ} →
    Base t w i j to →
    next ≡ row_of_code (row_code (row_in w i).place.next) →
    TableRoom out b (entries# (redefined t w i j to)) to →
    Redefining t w out out i j to b b next
unfolding append
redefining-starts t w out i j to b h e f =
    record {
      at = j;
      following = following-starts h (code-of w i e);
      room = f;
      done = end;
      built = built-none w out b f.narrow;
      same = refl;
    }

-- how far the chain can still go
abbrev pub chain_left : ℕ → Option ℕ → ℕ
chain_left to None = 0
chain_left to (Some row) = to - row

module _ {t : List ℕ} {w : List Row} {out₀ out : List TableEntry} {i j to : ℕ} {b₀ b : Block} {next : Option ℕ} (inv : Redefining t w out₀ out i j to b₀ b next) where
  pub redefining-ends : next ≡ None → Built i to w out₀ b₀ (redefined t w i j to) b out
  unfolding folded_below
  redefining-ends h =
      built-as
      (inv.same
      ∙ ap (λ (es : Entries). append inv.done (folded_below t es)) (following-none inv.following (omega (arith, ap row_code h)))
      ∙ append-end inv.done)
      inv.built

  module _ {row : ℕ} (l : next ≡ Some row) where
    -- the next of them
    pub redefining-next : Next t w i inv.at to (redefiners_in t w i inv.at to) row
    redefining-next =
        let here : row_code next - 1 ≡ row = omega (arith, ap row_code l) in
        subst (Next t w i inv.at to (redefiners_in t w i inv.at to)) here (following-next inv.following (omega (arith, ap row_code l)))

    pub redefining-numbered : Numbered w row to
    redefining-numbered = next-numbered inv.following redefining-next

    module _ {m : ℕ} (h : ChildrenEnd w row to m) where
      pub redefining-sibling : Branch t w row m to × Known t w row (before_in w row)
      redefining-sibling = next-sibling inv.following redefining-next h

      module _ {start : ℕ} (z : start ≡ (row_in w i).place.offset) where
        next_built : redefined t w i inv.at to ≡ append (item_in t w row m (Some start)) (redefined t w i m to)
        unfolding folded_below append
        next_built =
            ap (folded_below t) (next-is inv.following redefining-next h)
            ∙ at_next t w row m to (rebased (row_in w i).place.offset (entry_in w row)) (redefined t w i m to)
            ∙ ap (λ (n : ℕ). entry (rebased n (entry_in w row)) (listed t w (row + 1) m) (redefined t w i m to)) (sym z)

        pub redefining-room : TableRoom out b (entries# (item_in t w row m (Some start))) m
        redefining-room =
            let item = item_in t w row m (Some start) in
            let rest = redefined t w i m to in
            let all = inv.same ∙ ap (append inv.done) next_built in
            room-part m h.high (first-room item rest refl (second-room inv.done (append item rest) all inv.room inv.built))

        pub redefining-on :
            {b' : Block} {after : List TableEntry} {next' : Option ℕ} →
            Built row m w out b (item_in t w row m (Some start)) b' after →
            next' ≡ row_of_code (row_code (row_in w row).place.next) →
            Redefining t w out₀ after i j to b₀ b' next'
        redefining-on q e =
            let item = item_in t w row m (Some start) in
            let later : i ≤ row = omega (arith, inv.following.base.low, inv.following.low, redefining-next.low) in
            record {
              at = m;
              following = next-on inv.following redefining-next h (code-of w row e);
              room = inv.room;
              done = append inv.done item;
              built = inv.built then built-wider i to later h.high q;
              same = inv.same ∙ ap (append inv.done) next_built ∙ sym (append-append inv.done item (redefined t w i m to));
            }

      pub redefining-falls : {next' : Option ℕ} → next' ≡ row_of_code (row_code (row_in w row).place.next) → chain_left to next' < chain_left to next
      redefining-falls {next'} e =
          subst
          (λ (n : Option ℕ). chain_left to next' < chain_left to n)
          (sym l)
          (falls next' (next-on inv.following redefining-next h (code-of w row e)).rest)
        where
          falls : (n : Option ℕ) → Onward t w i m to (redefiners_in t w i m to) (row_code n) → chain_left to n < to - row
          falls None x = omega (arith, h.low, h.high)
          falls (Some after) x = omega (arith, x.low, x.high, h.low, h.high)
