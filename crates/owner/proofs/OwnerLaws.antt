-- Laws of the byte owner over the table: a flat search for the clauses that it does not take; the rows of the table are
-- those of the listing; one law for each way through the walk; and what the walk finds is the definition's owner.
-- Assumes nothing.
use Prim.Native.Nat.{ℕ, zero, suc, ◌+◌, ◌*◌, ◌-◌, ◌/◌, ◌%◌, ◌≤◌, ◌<◌}
use mathlib.Core.Path.{◌≡◌, refl, sym, ◌∙◌, ap, ap₂, subst}
use mathlib.Core.Bool.{Bool, true, false, ◌||◌}
use mathlib.Core.List.{List, [], ◌∷◌, ◌++◌}
use mathlib.Core.Logic.{⊎_elim}
use native.Mathlib.Numerals.{add-one}
use native.Mathlib.Nat.{zero-add, add-zero, suc-add, div-add-mod'}
use native.Mathlib.Omega.{arith}
use lib.ListN.{length}
use Rattle.std.specs.Prelude.{Option, None, Some, IsSome}
use Rattle.std.specs.List.{list_any, range_with_len}
use Rattle.std.proofs.Math.Bool.{or_assoc}
use Rattle.definition.specs.declared.Owner.{Owner}
use Rattle.definition.specs.declared.Refusal.{Refusal}
use Rattle.definition.specs.declared.Statement.{Statement}
use Rattle.definition.specs.Basic.{is_given, Answer, Err, Ok, ◌>>=◌, and_then}
use Rattle.definition.specs.Calls.{owner_in}
use Rattle.definition.specs.Fold.{Entries, entry, total, folded_list, folded_below, folded_all}
use Rattle.definition.specs.Owner.{size, overlaid}
use Rattle.definition.specs.Record.{record_length, layout}
use Rattle.definition.specs.Search.{entries#, Row as Step, row_of_entry, rows, walk}
use Rattle.definition.specs.Tree.{Forest, leaf, item, above, not_above, forest, root}
use Rattle.definition.proofs.Cover.{Plain, plain, Unfolded, fold-plain}
use Rattle.definition.proofs.Demand3.{refuses-40, refuses-41, one-owner, walked, computed}
use Rattle.definition.proofs.Lists.{order, tested}
use Rattle.definition.proofs.Walk.{walk-slack, walk-end, walk-piece, walk-in, walk-later, walk-skip}
use Rattle.rows.specs.declared.Row.{Row}
use Rattle.rows.specs.Rows.{statement_at, statements_from, row_in}
use Rattle.layout.specs.Places.{entry_in, entries_in, rows_forest}
use Rattle.record.proofs.LaidLaws.{layout_is, listed-fields}
use Rattle.layout.proofs.EntriesLaws.{size-stretch, Rows, rows-forest, linked-counted}
use Rattle.layout.proofs.ShownLaws.{entries-size, marked-linked}
use Rattle.record.specs.Laying.{Listed}
use Rattle.layout.specs.Shown.{list_in, Measured}
use Rattle.layout.specs.Children.{BelowCounted}
use Rattle.owner.specs.Walked.{overlays, row_at, table_rows, Walkable}

-- ---------------------------------------------------------------- a REDEFINES or a DEPENDING ON

-- some statement of a list has one
unfoldable pub any_overlays : List Statement → Bool
any_overlays [] = false
any_overlays (s ∷ ss) = overlays s || any_overlays ss

-- a forest cut in two has what its parts have
overlaid-sides : (n : ℕ) (f : Forest) → (overlaid (above n f) || overlaid (not_above n f)) ≡ overlaid f
unfolding above not_above overlaid
overlaid-sides n leaf = refl
overlaid-sides n (item s kids later) =
    let ih = overlaid-sides n later in
    let own = is_given s.clauses.redefines || is_given s.clauses.depending || overlaid kids in
    tested n s.level
    (λ p _. simp p (or_assoc own (overlaid (above n later)) (overlaid (not_above n later))
    ∙ ap (λ (b : Bool). own || b) ih))
    (λ p _. simp p)

-- a forest has one where its list of statements has
overlaid-forest : (ss : List Statement) → overlaid (forest ss) ≡ any_overlays ss
unfolding forest overlaid any_overlays
overlaid-forest [] = refl
overlaid-forest (s ∷ ss) =
    let f = forest ss in
    let n = s.level in
    or_assoc (overlays s) (overlaid (above n f)) (overlaid (not_above n f))
    ∙ ap (λ (b : Bool). overlays s || b) (overlaid-sides n f ∙ overlaid-forest ss)

-- and a list of statements where one of its rows has
rows-overlay : (w : List Row) (n k : ℕ) →
    list_any (λ j. overlays (statement_at w j)) (range_with_len k n) ≡ any_overlays (statements_from w k n)
unfolding any_overlays statements_from
rows-overlay w zero k = refl
rows-overlay w (suc n) k =
    ap (λ (b : Bool). overlays (statement_at w k) || b)
    (ap (λ (i : ℕ). list_any (λ j. overlays (statement_at w j)) (range_with_len i n)) (add-one k)
    ∙ rows-overlay w n (suc k))

pub rows-overlaid : (w : List Row) (from to : ℕ) →
    list_any (λ j. overlays (statement_at w j)) (range_with_len from (to - from)) ≡ overlaid (rows_forest w from to)
rows-overlaid w from to = rows-overlay w (to - from) from ∙ sym (overlaid-forest (statements_from w from (to - from)))

-- ---------------------------------------------------------------- the rows of the table

-- m rows and then n rows
table-append : (w : List Row) (m n k : ℕ) → table_rows w k (m + n) ≡ table_rows w k m ++ table_rows w (k + m) n
unfolding table_rows
table-append w zero n k = rw (zero-add, add-zero)
table-append w (suc m) n k =
    let e : suc k + m ≡ k + suc m = omega arith in
    rw suc-add (ap (λ (l : List Step). row_at w k ∷ l) (table-append w m n (suc k)
    ∙ ap (λ (j : ℕ). table_rows w (suc k) m ++ table_rows w j n) e))

table-length : (w : List Row) (m k : ℕ) → length (table_rows w k m) ≡ m
unfolding table_rows
table-length w zero k = refl
table-length w (suc m) k = ap suc (table-length w m (suc k))

-- the first of the rows up to `to`, and the others; or none
table-next : (w : List Row) (to k : ℕ) → k < to → table_rows w k (to - k) ≡ row_at w k ∷ table_rows w (suc k) (to - suc k)
unfolding table_rows
table-next w to k h = ap (table_rows w k) (let e : to - k ≡ suc (to - suc k) = omega arith in e)

table_none : (w : List Row) (to k : ℕ) → to ≤ k → table_rows w k (to - k) ≡ []
unfolding table_rows
table_none w to k h = ap (table_rows w k) (let e : to - k ≡ 0 = omega arith in e)

-- the rows of the listing are those of the table, where each counts the rows below it
rows-table : (w : List Row) (f : Forest) (k : ℕ) → BelowCounted w k f → rows (entries_in w k f) ≡ table_rows w k (size f)
unfolding rows entries_in table_rows
rows-table w leaf k c = refl
rows-table w (item s kids later) k c =
    let own : row_of_entry (entry_in w k) (entries# (entries_in w (suc k) kids))
    ≡ row_at w k = ap (row_of_entry (entry_in w k)) (entries-size w kids (suc k) ∙ sym c.0) in
    let inner = rows-table w kids (suc k) c.1 in
    let rest = rows-table w later (suc k + size kids) c.2 in
    (λ i. own i ∷ (inner i ++ rest i))
    ∙ ap (λ (l : List Step). row_at w k ∷ l) (sym (table-append w (size kids) (size later) (suc k)))

-- the rows below a row end where its list ends, or before
rows-nested : (w : List Row) (f : Forest) (k : ℕ) → BelowCounted w k f → (m : ℕ) → k ≤ m → m < k + size f →
    suc m + (row_in w m).below ≤ k + size f
rows-nested w leaf k c m l u = absurd (omega arith)
rows-nested w (item s kids later) k c m l u =
    let inner = rows-nested w kids (suc k) c.1 m in
    let rest = rows-nested w later (suc k + size kids) c.2 m in
    ⊎_elim
    (λ (p : k < m).
    ⊎_elim
    (λ (q : m < suc k + size kids). let n = inner (omega arith) q in omega arith)
    (λ (q : suc k + size kids ≤ m). let n = rest q (omega arith) in omega arith)
    (order m (suc k + size kids)))
    (λ (p : m ≤ k).
    let e : k ≡ m = omega arith in
    let n = subst (λ (x : ℕ). (row_in w x).below ≡ size kids) e c.0 in
    omega arith)
    (order k m)

-- ---------------------------------------------------------------- the walk

-- m rows passed over
walk-past : (w : List Row) (m k n number first q : ℕ) →
    walk m number first (table_rows w k (m + n)) q ≡ walk 0 (number + m) first (table_rows w (k + m) n) q
walk-past w m k n number first q =
    let ss = table_rows w k m in
    let rs = table_rows w (k + m) n in
    ap (λ (l : List Step). walk m number first l q) (table-append w m n k)
    ∙ ap (λ (x : ℕ). walk x number first (ss ++ rs) q) (sym (table-length w m k))
    ∙ walk-skip number first ss rs q
    ∙ ap (λ (x : ℕ). walk 0 (number + x) first rs q) (table-length w m k)

-- where the walk is: what is left of it gives the answer
pub record At (w : List Row) (from to position k first q : ℕ) : Type 0 where
  pub held : Walkable w from to
  pub fits : to ≤ length w
  pub low : from ≤ k
  pub same : walk 0 0 0 (rows (list_in w from to)) position ≡ walk 0 (k - from) first (table_rows w k (to - k)) q
  pub whole : first + q ≡ position

pub walk-starts : {w : List Row} {from to position : ℕ} → Walkable w from to → At w from to position from 0 position
walk-starts {w} {from} {to} {position} h =
    let all = rows-table w (rows_forest w from to) from h.counted ∙ ap (table_rows w from) (size-stretch w from to) in
    let e : 0 ≡ from - from = omega arith in
    record {
      held = h;
      fits = h.fits;
      low = omega arith;
      same = ap (λ (l : List Step). walk 0 0 0 l position) all
          ∙ ap (λ (n : ℕ). walk 0 n 0 (table_rows w from (to - from)) position) e;
      whole = omega arith;
    }

module _ {w : List Row} {from to position k first q : ℕ} (a : At w from to position k first q) where
  -- the rows below row k are there
  pub row-nested : k < to → k + 1 + (row_in w k).below ≤ to
  row-nested h =
      let many = size-stretch w from to in
      omega (arith, many, rows-nested w (rows_forest w from to) from a.held.counted k a.low (omega (arith, many)))

  at_row : k < to →
      walk 0 0 0 (rows (list_in w from to)) position
      ≡ walk 0 (k - from) first (row_at w k ∷ table_rows w (suc k) (to - suc k)) q
  at_row h = a.same ∙ ap (λ (l : List Step). walk 0 (k - from) first l q) (table-next w to k h)

  -- a byte before the row
  pub found-slack : k < to → {o : ℕ} → o ≡ (row_in w k).place.offset → q < o →
      Some (Owner.Slack (k - from)) ≡ walk 0 0 0 (rows (list_in w from to)) position
  found-slack h e l = sym (at_row h
      ∙ walk-slack (k - from) first (row_at w k) (table_rows w (suc k) (to - suc k)) q (omega arith))

  -- no row is left
  pub found_none : to ≤ k → None ≡ walk 0 0 0 (rows (list_in w from to)) position
  unfolding walk
  found_none h = sym (a.same ∙ ap (λ (l : List Step). walk 0 (k - from) first l q) (table_none w to k h))

-- a byte that does not stand before row k, where so much is known of the row
module _ {w : List Row} {from to position k first q : ℕ} (a : At w from to position k first q) (h : k < to)
    {offset width at_end below all : ℕ} (o : offset ≡ (row_in w k).place.offset) (d : width ≡ (row_in w k).place.width)
    (n : at_end ≡ (row_in w k).place.slack_at_end) (b : below ≡ (row_in w k).below) (t : Measured (total (entry_in w k)) all) (r : offset ≤ q) where
  -- a byte in an occurrence of the row
  module _ (l : q - offset < all) where
    inside-row : q < (row_in w k).place.offset + total (entry_in w k)
    inside-row = omega (arith, o, t.is)

    -- the walk's start and place are the code's
    known_start : first + (row_in w k).place.offset + (q - (row_in w k).place.offset) / (row_in w k).place.width * (row_in w k).place.width
        ≡ first + (offset + (q - offset) / width * width)
    known_start = ap₂ (λ (x y : ℕ). first + x + (q - x) / y * y) (sym o) (sym d) ∙ omega arith

    known-place : (q - (row_in w k).place.offset) % (row_in w k).place.width ≡ (q - offset) % width
    known-place = ap₂ (λ (x y : ℕ). (q - x) % y) (sym o) (sym d)

    -- slack at the end of an occurrence
    pub found-end :
        width - at_end ≤ (q - offset) % width →
        Some (Owner.Slack (k - from)) ≡ walk 0 0 0 (rows (list_in w from to)) position
    found-end e =
        sym
        (at_row a h
        ∙ walk-end (k - from) first (row_at w k) (table_rows w (suc k) (to - suc k)) q (omega (arith, o, r))
        inside-row (omega (arith, e, d, n, known-place)))

    pub found-piece :
        (q - offset) % width < width - at_end →
        below ≡ 0 →
        Some (Owner.Piece (k - from) (first + (offset + (q - offset) / width * width)) ((q - offset) % width))
        ≡ walk 0 0 0 (rows (list_in w from to)) position
    found-piece e z =
        sym
        (at_row a h
        ∙ walk-piece (k - from) first (row_at w k) (table_rows w (suc k) (to - suc k)) q (omega (arith, o, r))
        inside-row (omega (arith, e, d, n, known-place)) (sym b ∙ z)
        ∙ ap₂ (λ (x y : ℕ). Some (Owner.Piece (k - from) x y)) known_start known-place)

    pub go-in :
        (q - offset) % width < width - at_end →
        (below ≡ 0 → ⊥) →
        At w from to position (k + 1) (first + (offset + (q - offset) / width * width)) ((q - offset) % width)
    go-in l' z =
        let rest = table_rows w (suc k) (to - suc k) in
        let e : suc (k - from) ≡ suc k - from = omega (arith, a.low) in
        record {
          held = a.held;
          fits = a.fits;
          low = omega (arith, a.low);
          same =
              rw (add-one k)
              (at_row a h
              ∙ walk-in (k - from) first (row_at w k) rest q (omega (arith, o, r)) inside-row (omega (arith, l', d, n, known-place)) (omega (arith, z))
              ∙ ap₂ (λ (x y : ℕ). walk 0 (suc (k - from)) x rest y) known_start known-place
              ∙ ap (λ (n : ℕ). walk 0 n (first + (offset + (q - offset) / width * width)) rest
              ((q - offset) % width)) e);
          whole = omega (arith, a.whole, div-add-mod' (q - offset) width);
        }

  -- a byte behind the row
  pub go_on : all ≤ q - offset → At w from to position (k + (1 + below)) first q
  go_on l =
      let s = row-nested a h in
      let left = to - (suc k + below) in
      let next : k + (1 + below) ≡ suc k + below = omega arith in
      let e : to - suc k ≡ below + left = omega (arith, b) in
      let m' : suc (k - from) + below ≡ suc k + below - from = omega (arith, a.low) in
      record {
        held = a.held;
        fits = a.fits;
        low = omega (arith, a.low);
        same =
            rw next
            (at_row a h
            ∙ walk-later (k - from) first (row_at w k) (table_rows w (suc k) (to - suc k)) q (omega (arith, o, r))
            (omega (arith, o, t.is))
            ∙ ap₂ (λ (x m : ℕ). walk x (suc (k - from)) first (table_rows w (suc k) m) q) (sym b) e
            ∙ walk-past w below (suc k) left (suc (k - from)) first q
            ∙ ap (λ (x : ℕ). walk 0 x first (table_rows w (suc k + below) left) q) m');
        whole = a.whole;
      }

pub ruleset walk_steps = (walk-starts, found-slack, found-end, found-piece, go-in, go_on, found_none)

-- ---------------------------------------------------------------- without REDEFINES every list is folded as it stands

module _ (text : List ℕ) where
  -- one list
  list-plain : (bases : List _) (es : Entries) → Unfolded es → folded_list text bases es ≡ es
  list-plain bases es u = fold-plain text bases es u

  -- no entry of a list in the table redefines, where no statement does
  rows-unfolded : (w : List Row) (f : Forest) (k : ℕ) → Plain f → Rows w k f → Unfolded (entries_in w k f)
  unfolding entries_in
  rows-unfolded w leaf k p r = tt
  rows-unfolded w (item s kids later) k p r = (
    ap (λ (x : Statement). is_given x.clauses.redefines) r.0 ∙ p.0.redefines,
    rows-unfolded w later (suc k + size kids) p.2 r.2,
  )

  -- the lists below
  below_plain : (w : List Row) (f : Forest) (k : ℕ) → Plain f → Rows w k f →
      folded_below text (entries_in w k f) ≡ entries_in w k f
  unfolding entries_in folded_below
  below_plain w leaf k p r = refl
  below_plain w (item s kids later) k p r =
      let inner = ap (folded_list text []) (below_plain w kids (suc k) p.1 r.1)
      ∙ list-plain [] (entries_in w (suc k) kids) (rows-unfolded w kids (suc k) p.1 r.1) in
      let rest = below_plain w later (suc k + size kids) p.2 r.2 in
      λ i. entry (entry_in w k) (inner i) (rest i)

  -- and all of them
  pub folded-plain : (w : List Row) (from to : ℕ) → overlaid (rows_forest w from to) ≡ false →
      folded_all text (list_in w from to) ≡ list_in w from to
  folded-plain w from to free =
      let f = rows_forest w from to in
      let p = plain f free in
      let r = rows-forest w from (to - from) in
      ap (folded_list text []) (below_plain w f from p r)
      ∙ list-plain [] (entries_in w from f) (rows-unfolded w f from p r)

-- ---------------------------------------------------------------- the answer

-- rows that hold a record can be walked
pub listed-walkable : {text : List ℕ} {read : Answer Forest} {w : List Row} {from to length : ℕ} →
    Listed text read w from to length → Walkable w from to
listed-walkable {text} {w = w} {from} {to} l =
    let f = rows_forest w from to in
    let linked = marked-linked text w f from 0 l.tree.marks in
    record { fits = l.tree.fits; sized = l.tree.sized; counted = linked-counted text w f from 0 linked }

module _ {text : List ℕ} {w : List Row} {from to length : ℕ} (l : Listed text (Ok (rows_forest w 0 to)) w from to length) where
  -- the record's layout
  pub laid_out : layout text (rows_forest w from to) ≡ Ok (folded_all text (list_in w from to))
  unfolding and_then
  laid_out =
      layout_is text (rows_forest w from to)
      ∙ ap (λ (a : Answer Entries). a >>= λ es. Ok (folded_all text es)) (listed-fields l)

  module _ {b : Bool} (p : b ≡ overlaid (rows_forest w from to)) (q : ℕ) where
    -- the root that was dropped does not matter
    abbrev asked : Answer Owner
    asked = owner_in q text (root (rows_forest w 0 to)) (rows_forest w from to) (list_in w from to)

    rootless : owner_in q text None (rows_forest w from to) (list_in w from to) ≡ asked
    unfolding owner_in
    rootless = refl

    -- 40
    pub answers-40 : b ≡ true → Err Refusal.Overlaid ≡ asked
    answers-40 e = sym (refuses-40 text (rows_forest w from to) (list_in w from to) (sym p ∙ e) q) ∙ rootless

    module _ (e : b ≡ false) where
      -- 41
      pub answers-41 : length ≤ q → Err Refusal.OutsideRecord ≡ asked
      answers-41 h =
          sym (refuses-41 text (rows_forest w from to) (folded_all text (list_in w from to)) laid_out (sym p ∙ e) q
          (list_in w from to) (omega (arith, l.long)))
          ∙ rootless

      module _ (h : q < length) {o : Option Owner} (f : o ≡ walk 0 0 0 (rows (list_in w from to)) q) where
        below_length : q < record_length (folded_all text (list_in w from to))
        below_length = omega (arith, l.long)

        -- the walk is over the rows of the listing
        of-listing : o ≡ walk 0 0 0 (rows (folded_all text (list_in w from to))) q
        of-listing = f ∙ ap (λ (es : Entries). walk 0 0 0 (rows es) q) (sym (folded-plain text w from to (sym p ∙ e)))

        -- every byte below the length has an owner,
        pub someone : IsSome o
        someone =
            let F = rows_forest w from to in
            let es = folded_all text (list_in w from to) in
            let free = sym p ∙ e in
            let named = of-listing ∙ walked text F es laid_out free q below_length
            ∙ (one-owner text F es laid_out free q below_length).names in
            subst IsSome (sym named) refl

        -- and what the walk finds is that one
        pub found : {x : Owner} → o ≡ Some x → Ok x ≡ asked
        found s =
            sym (computed text (rows_forest w from to) (folded_all text (list_in w from to)) laid_out (sym p
            ∙ e) q (list_in w from to) below_length (sym of-listing ∙ s))
            ∙ rootless
