-- The cycle of calls of the walk that builds the table.
-- Assumes nothing.
use Rattle.std.specs.Prelude.{Option, None, Some}
use Rattle.std.proofs.Common.{◌≡◌, ◌+◌, sym, ap, ◌∙◌, ℕ, List, arith, rules}
use Rattle.definition.specs.Fold.{Entries, end, entry, append, widest, union}
use Rattle.definition.specs.Search.{entries#}
use Rattle.rows.specs.declared.Row.{Row}
use Rattle.rows.specs.Rows.{row_of_code, row_code, row_in, before_in}
use Rattle.rows.proofs.RowLaws.{of-code}
use Rattle.layout.specs.declared.unions.Standing.{Standing}
use Rattle.layout.specs.Shown.{shown_at, standing_at, Base, Branch}
use Rattle.layout.specs.Targets.{bases_at}
use Rattle.layout.specs.Places.{entry_in}
use Rattle.layout.proofs.WidthLaws.{branch_row, branch-base, stands-base, along-sibling}
use Rattle.fold.specs.Building.{item_in, redefined, union_in, TableRoom, Built}
use Rattle.fold.specs.declared.entries.Block.{Block}
use Rattle.fold.specs.declared.table.TableEntry.{TableEntry}
use Rattle.fold.proofs.BuildLaws.{built-none, built-as, built-wider, room-part, room_within}
use Rattle.fold.proofs.BuildLaws.{room_open, built-own, built-union}
use Rattle.fold.proofs.WalkLaws.{listed-none, shown-under, shown-alone, shown-base, shown-union, union-based}
use Rattle.fold.proofs.WalkLaws.{based-folded, based-alone, first-room, second-room, both-built, room_as}
use Rattle.fold.proofs.WalkLaws.{listing-starts, listing-ends, listing-falls, listing-room, listing-on}
use Rattle.fold.proofs.WalkLaws.{redefining-starts, redefining-ends, redefining-next}
use Rattle.fold.proofs.WalkLaws.{redefining-numbered, redefining-sibling, redefining-room}
use Rattle.fold.proofs.WalkLaws.{redefining-on, redefining-falls}
use Rattle.fold.proofs.entries.+build.Goals as goal

-- ---------------------------------------------------------------- build_item

pub build_item-build_inner-inner-requires : goal.build_item-build_inner-inner-requires
build_item-build_inner-inner-requires t c =
    rw c.within.ensures (omega (arith, c.args.row.branch.low), room_within c.requires)

pub build_item-close_item-requires : goal.build_item-close_item-requires
build_item-close_item-requires t c =
    let a = c.args in
    let built = rw c.within.ensures at c.build_inner-inner.ensures in
    room_open a.b built a.row.row a.row.branch.low c.requires

pub build_item-returns : goal.build_item-returns
build_item-returns t c =
    let a = c.args in
    let built = rw c.within.ensures at c.build_inner-inner.ensures in
    built-own
    a.b
    (built-wider a.row.row a.row.end (omega arith) (omega arith) built)
    a.row.row
    (omega arith)
    a.row.branch.low
    (branch_row a.row.branch)
    a.union
    c.close_item.ensures

-- ---------------------------------------------------------------- build_inner

pub build_inner-returns-then-row-first : goal.build_inner-returns-then-row-first
build_inner-returns-then-row-first t c =
    let a = c.args in
    let x = a.row in
    built-as (listed-none x.text.now x.rows.all.now (x.row + 1) x.end (omega (arith, c.if-row-first.true)))
    (built-none x.rows.all.now a.entries.now a.b c.requires.narrow)

pub build_inner-build_list-requires : goal.build_inner-build_list-requires
build_inner-build_list-requires t c =
    let n = c.children.ensures in
    rw (n.0, n.1, n.2, n.3) (omega (arith, c.args.row.branch.low), c.requires)

pub build_inner-returns : goal.build_inner-returns
build_inner-returns t c =
    let n = c.children.ensures in
    rw (n.0, n.1, n.2, n.3) at c.build_list.ensures

-- ---------------------------------------------------------------- build_list

pub build_list-loop-sibling-init : goal.build_list-loop-sibling-init
build_list-loop-sibling-init t c =
    let a = c.args in
    let l = a.list in
    let s = c.siblings-sibling-items.ensures in
    rw c.into_iter-sibling-iterator.ensures.into_iter_gives
    (tt, tt, s.0, listing-starts l.text.now l.rows.all.now a.entries.now l.from l.rows.count a.b l.tree c.requires s.1)

pub build_list-new-row-requires : goal.build_list-new-row-requires
build_list-new-row-requires t c =
    let inv = c.loop-sibling.invariant in
    let s = c.in-Some.ensures.steps in
    along-sibling inv.3.along (rw inv.2 at s.2) s.1

pub build_list-build_shown-r-requires : goal.build_list-build_shown-r-requires
build_list-build_shown-r-requires t c =
    let inv = c.loop-sibling.invariant in
    let s = c.in-Some.ensures.steps in
    let h = rw inv.2 at s.2 in
    let n = c.new-row.ensures in
    rw (n.0, n.1, n.2, n.3) (omega (arith, listing-falls inv.3 s.1 h), listing-room inv.3 s.1 h)

pub build_list-loop-sibling-preserved : goal.build_list-loop-sibling-preserved
build_list-loop-sibling-preserved t c =
    let inv = c.loop-sibling.invariant in
    let s = c.in-Some.ensures.steps in
    let n = c.new-row.ensures in
    let built = rw (n.0, n.1, n.2, n.3) at c.build_shown-r.ensures in
    (tt, tt, s.3 ∙ inv.2, listing-on inv.3 s.1 (rw inv.2 at s.2) built s.4)

pub build_list-returns : goal.build_list-returns
build_list-returns t c =
    let inv = c.loop-sibling.invariant in
    listing-ends inv.3 (rw inv.2 at c.in-None.ensures.steps.0)

-- ---------------------------------------------------------------- build_members

-- the members of a union are two parts, one after the other
module _ {t : List ℕ} {w : List Row} {i j to : ℕ} {es : Entries} (xs : Entries) (x : Branch t w i j to) (split : es ≡ append xs (redefined t w i j to)) {out : List TableEntry} {b : Block} (room : TableRoom out b (entries# es) to) where
  part : TableRoom out b (entries# xs) j
  part = room-part j x.high (first-room xs (redefined t w i j to) split room)

  module _ {r : Block} {after : List TableEntry} (p : Built i j w out b xs r after) where
    after_part : TableRoom after r (entries# (redefined t w i j to)) to
    after_part = second-room xs (redefined t w i j to) split room p

    both : {r' : Block} {after' : List TableEntry} → Built i to w after r (redefined t w i j to) r' after' → Built i to w out b es r' after'
    both q = both-built xs (redefined t w i j to) split room (built-wider i to (omega arith) x.high p) q

pub build_members-build_based-next-requires : goal.build_members-build_based-next-requires
build_members-build_based-next-requires t c =
    let x = c.args.base in
    let split = union-based x.text.now x.rows.all.now x.row x.end x.rows.count in
    (omega (arith, x.branch.low, x.branch.high), part _ x.branch split c.requires.1)

pub build_members-build_redefiners-requires : goal.build_members-build_redefiners-requires
build_members-build_redefiners-requires t c =
    let x = c.args.base in
    let split = union-based x.text.now x.rows.all.now x.row x.end x.rows.count in
    (omega (arith, x.branch.low, x.branch.high), (c.requires.0, after_part _ x.branch split c.requires.1 c.build_based-next.ensures))

pub build_members-returns : goal.build_members-returns
build_members-returns t c =
    let x = c.args.base in
    let split = union-based x.text.now x.rows.all.now x.row x.end x.rows.count in
    both _ x.branch split c.requires.1 c.build_based-next.ensures c.build_redefiners.ensures

-- the next row of its union, as a number
next-of : {r q : Row} → r ≡ q → r.place.next ≡ row_of_code (row_code q.place.next)
next-of {r} {q} e = ap (λ (x : Row). x.place.next) e ∙ sym (of-code q.place.next)

-- the row that a link names, as a place among the rows
link-of : {next : Option ℕ} {row k : ℕ} → next ≡ Some row → k ≡ row → next ≡ Some k
link-of e h = e ∙ ap Some (sym h)

-- ---------------------------------------------------------------- build_based

pub build_based-build_list-requires : goal.build_based-build_list-requires
build_based-build_list-requires t c =
    let x = c.args.base in
    let same = based-folded x.text.now x.rows.all.now x.row x.end x.rows.count c.has_own.ensures c.if-has_own.true in
    let n = c.children.ensures in
    rw (n.0, n.1, n.2, n.3) (omega (arith, x.branch.low), room_as same c.requires)

pub build_based-returns-then-has_own : goal.build_based-returns-then-has_own
build_based-returns-then-has_own t c =
    let x = c.args.base in
    let same = based-folded x.text.now x.rows.all.now x.row x.end x.rows.count c.has_own.ensures c.if-has_own.true in
    let n = c.children.ensures in
    built-as same (built-wider x.row x.end (omega arith) (omega arith) (rw (n.0, n.1, n.2, n.3) at c.build_list.ensures))

pub build_based-build_item-requires : goal.build_based-build_item-requires
build_based-build_item-requires t c =
    let x = c.args.base in
    let same = based-alone x.text.now x.rows.all.now x.row x.end x.rows.count c.has_own.ensures c.if-has_own.false (ap (λ (r : Row). r.place.offset) c.row.ensures) in
    (omega (arith, x.branch.low), room_as same c.requires)

pub build_based-returns-else-has_own : goal.build_based-returns-else-has_own
build_based-returns-else-has_own t c =
    let x = c.args.base in
    let same = based-alone x.text.now x.rows.all.now x.row x.end x.rows.count c.has_own.ensures c.if-has_own.false (ap (λ (r : Row). r.place.offset) c.row.ensures) in
    built-as same c.build_item.ensures

-- ---------------------------------------------------------------- build_redefiners

pub build_redefiners-loop-next-init : goal.build_redefiners-loop-next-init
build_redefiners-loop-next-init t c =
    let a = c.args in
    let x = a.base in
    let base = branch-base x.branch c.requires.0 in
    redefining-starts x.text.now x.rows.all.now a.entries.now x.row x.end x.rows.count a.b base (search rules) c.requires.1

pub build_redefiners-next_of-end-requires : goal.build_redefiners-next_of-end-requires
build_redefiners-next_of-end-requires t c = redefining-numbered c.loop-next.invariant (link-of c.in-Some.is c.from-row.ensures)

pub build_redefiners-new-redefiner-requires : goal.build_redefiners-new-redefiner-requires
build_redefiners-new-redefiner-requires t c = redefining-sibling c.loop-next.invariant (link-of c.in-Some.is c.from-row.ensures) c.next_of-end.ensures

pub build_redefiners-build_item-r-requires : goal.build_redefiners-build_item-r-requires
build_redefiners-build_item-r-requires t c =
    let inv = c.loop-next.invariant in
    let more = link-of c.in-Some.is c.from-row.ensures in
    let m = c.next_of-end.ensures in
    let n = c.new-redefiner.ensures in
    rw (n.0, n.1, n.2, n.3) (
      omega (arith, inv.following.low, (redefining-next inv more).low, m.low, m.high),
      redefining-room inv more m (ap (λ (r : Row). r.place.offset) c.row.ensures),
    )

pub build_redefiners-loop-next-smaller : goal.build_redefiners-loop-next-smaller
build_redefiners-loop-next-smaller t c =
    redefining-falls c.loop-next.invariant (link-of c.in-Some.is c.from-row.ensures) c.next_of-end.ensures (next-of c.row-in-Some.ensures)

pub build_redefiners-loop-next-preserved : goal.build_redefiners-loop-next-preserved
build_redefiners-loop-next-preserved t c =
    let n = c.new-redefiner.ensures in
    redefining-on
    c.loop-next.invariant
    (link-of c.in-Some.is c.from-row.ensures)
    c.next_of-end.ensures
    (ap (λ (r : Row). r.place.offset) c.row.ensures)
    (rw (n.0, n.1, n.2, n.3) at c.build_item-r.ensures)
    (next-of c.row-in-Some.ensures)

pub build_redefiners-returns : goal.build_redefiners-returns
build_redefiners-returns t c = redefining-ends c.loop-next.invariant c.in_default.is

-- ---------------------------------------------------------------- build_shown

-- a base, where row i is known to be one
module _ {t : List ℕ} {w : List Row} {i j to : ℕ} (h : Branch t w i j to) {s : Standing} (p : s ≡ standing_at t w i) (e : s ≡ Standing.Base) {next : Option ℕ} (n : next ≡ row_of_code (row_code (row_in w i).place.next)) where
  based : Base t w i j to
  based = branch-base h (stands-base t w i (bases_at w (before_in w i)) p e)

  -- with redefiners, and without
  unites :
      {row : ℕ} →
      next ≡ Some row →
      shown_at t w i j to (before_in w i) ≡ entry (union (entry_in w i) (widest (union_in t w i j to))) (union_in t w i j to) end
  unites x = shown-union t w i j to (before_in w i) p e based (sym n ∙ x)

  stands : next ≡ None → shown_at t w i j to (before_in w i) ≡ item_in t w i j None
  stands x = shown-base t w i j to (before_in w i) p e based (sym n ∙ x)

pub build_shown-returns-in-Under : goal.build_shown-returns-in-Under
build_shown-returns-in-Under t c =
    let a = c.args in
    let x = a.row in
    let last = before_in x.rows.all.now x.row in
    built-as
    (shown-under x.text.now x.rows.all.now x.row x.end x.rows.count last c.standing.ensures c.in-Under.is)
    (built-none x.rows.all.now a.entries.now a.b c.requires.narrow)

pub build_shown-returns-in-Alone : goal.build_shown-returns-in-Alone
build_shown-returns-in-Alone t c =
    let x = c.args.row in
    let last = before_in x.rows.all.now x.row in
    built-as
    (shown-alone x.text.now x.rows.all.now x.row x.end x.rows.count last c.standing.ensures c.in-Alone.is)
    (built-wider x.row x.rows.count (omega arith) x.branch.high c.build_item.ensures)

pub build_shown-build_members-inner-requires : goal.build_shown-build_members-inner-requires
build_shown-build_members-inner-requires t c =
    let x = c.args.row in
    let last = before_in x.rows.all.now x.row in
    let base = stands-base x.text.now x.rows.all.now x.row (bases_at x.rows.all.now last) c.standing.ensures c.in-Base.is in
    let shown = unites x.branch c.standing.ensures c.in-Base.is (next-of c.row.ensures) c.in-Some.is in
    rw c.within.ensures (omega arith, (base, room_within (room_as shown c.requires)))

pub build_shown-close_union-requires : goal.build_shown-close_union-requires
build_shown-close_union-requires t c =
    let a = c.args in
    let x = a.row in
    let shown = unites x.branch c.standing.ensures c.in-Base.is (next-of c.row.ensures) c.in-Some.is in
    let built = rw c.within.ensures at c.build_members-inner.ensures in
    room_open a.b built x.row (omega (arith, x.branch.low, x.branch.high)) (room_as shown c.requires)

pub build_shown-returns-in-Some : goal.build_shown-returns-in-Some
build_shown-returns-in-Some t c =
    let a = c.args in
    let x = a.row in
    built-as
    (unites x.branch c.standing.ensures c.in-Base.is (next-of c.row.ensures) c.in-Some.is)
    (
    built-union a.b (rw c.within.ensures at c.build_members-inner.ensures) x.row (omega arith)
    (omega (arith, x.branch.low, x.branch.high)) c.close_union.ensures
    )

pub build_shown-build_item-requires-in-None : goal.build_shown-build_item-requires-in-None
build_shown-build_item-requires-in-None t c =
    let x = c.args.row in
    let shown = stands x.branch c.standing.ensures c.in-Base.is (next-of c.row.ensures) c.in-None.is in
    (omega (arith, x.branch.high), room-part x.end x.branch.high (room_as shown c.requires))

pub build_shown-returns-in-None : goal.build_shown-returns-in-None
build_shown-returns-in-None t c =
    let x = c.args.row in
    built-as
    (stands x.branch c.standing.ensures c.in-Base.is (next-of c.row.ensures) c.in-None.is)
    (built-wider x.row x.rows.count (omega arith) x.branch.high c.build_item-in-None.ensures)
