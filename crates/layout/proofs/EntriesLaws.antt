-- The entries of a list are read back from the rows that hold their places, and the rows are linked; the entries of a
-- stretch of rows, one row further; rows that count the rows below them.
-- Assumes nothing.
use Rattle.std.specs.Prelude.{if◌then◌else◌, Option}
use Prim.Native.Nat.{ℕ, zero, suc, ◌+◌, ◌-◌, ◌≤◌, ◌<◌}
use mathlib.Core.Path.{◌≡◌, refl, sym, ap, ap₂, subst, ◌∙◌}
use mathlib.Core.Bool.{Bool, true, false, ◌&&◌}
use mathlib.Core.List.{List, [], ◌∷◌}
use native.Mathlib.Omega.{arith}
use lib.ListN.{length, length-set}
use Rattle.definition.specs.declared.Statement.{Statement}
use Rattle.definition.specs.declared.Entry.{Entry}
use Rattle.definition.specs.declared.Pictured.{Pictured}
use Rattle.definition.specs.declared.Span.{Span}
use Rattle.definition.specs.Basic.{is_given}
use Rattle.definition.specs.Tree.{Forest, leaf, item, above, not_above, forest, higher}
use Rattle.definition.specs.Fold.{Entries, end, entry, same_name}
use Rattle.definition.specs.Picture.{pictured}
use Rattle.definition.specs.Layout.{entry_of}
use Rattle.definition.specs.Owner.{size}
use Rattle.definition.specs.Search.{entries#}
use Rattle.definition.proofs.Lists.{tested}
use Rattle.rows.specs.declared.Row.{Row}
use Rattle.rows.specs.Rows.{row_in, before_in, row_code, statement_at, statements_from}
use Rattle.rows.proofs.RowLaws.{code-back, statements-same, length-statements}
use Rattle.layout.specs.Places.{put_places, placed_in, known, unnamed, entry_at, entry_in, rows_forest, entries_in}
use Rattle.layout.specs.Places.{RowLinked, Linked}
use Rattle.layout.specs.Targets.{base_after, plain_after, target_after}
use Rattle.layout.specs.Children.{ChildrenEnd, Numbered, BelowCounted}
use Rattle.layout.proofs.PlaceLaws.{members_put, first_put, known-place, place-other, length-places, known-places}
use Rattle.layout.proofs.PlaceLaws.{back_by, before-places, first_place}
use Rattle.layout.proofs.SearchLaws.{found, found_none, found-step, after_same, searched_same, plain-next, plain-same}
use Rattle.layout.proofs.RowLaws.{children-end, forest-split}

-- ---------------------------------------------------------------- sizes

size-sides : (n : ℕ) (f : Forest) → size (above n f) + size (not_above n f) ≡ size f
unfolding above not_above
size-sides n leaf = refl
size-sides n (item s kids later) =
    tested n s.level (λ p _. simp p (omega (arith, size-sides n later))) (λ p _. simp p (omega arith))

-- a forest has as many items as it has statements
pub size-forest : (ss : List Statement) → size (forest ss) ≡ length ss
unfolding forest
size-forest [] = refl
size-forest (s ∷ ss) = omega (arith, size-sides s.level (forest ss), size-forest ss)

pub size-stretch : (w : List Row) (a b : ℕ) → size (forest (statements_from w a (b - a))) ≡ b - a
size-stretch w a b = size-forest (statements_from w a (b - a)) ∙ length-statements w a (b - a)

-- ---------------------------------------------------------------- entries of statements

-- an entry has its statement's words
pub record EntryOf (s : Statement) (e : Entry) : Type 0 where
  pub place : ℕ
  pub contents : Pictured
  pub slack : ℕ
  pub inner : ℕ
  pub at_end : ℕ
  pub is : e ≡ entry_of s contents place slack inner at_end

-- a list of entries has an entry for each statement of a forest, in its shape
abbrev pub Of : Forest → Entries → Type 0
Of leaf end = Unit {0}
Of leaf (entry e members later) = ⊥
Of (item s kids later) end = ⊥
Of (item s kids later) (entry e members more) = EntryOf s e × Of kids members × Of later more

pub of_size : (f : Forest) (es : Entries) → Of f es → entries# es ≡ size f
of_size leaf end h = refl
of_size leaf (entry e members later) h = absurd h
of_size (item s kids later) end h = absurd h
of_size (item s kids later) (entry e members more) h = omega (arith, of_size kids members h.1, of_size later more h.2)

-- ---------------------------------------------------------------- statements in rows

-- the rows from k on hold the statements of a forest
abbrev pub Rows : List Row → ℕ → Forest → Type 0
Rows w k leaf = Unit {0}
Rows w k (item s kids later) = (statement_at w k ≡ s) × Rows w (suc k) kids × Rows w (suc k + size kids) later

rows-sides : (w : List Row) (n k : ℕ) (f : Forest) → Rows w k f → Rows w k (above n f) × Rows w (k + size (above n f)) (not_above n f)
unfolding above not_above
rows-sides w n k leaf h = (tt, tt)
rows-sides w n k (item s kids later) h =
    let ih = rows-sides w n (suc k + size kids) later h.2 in
    tested n s.level
    (λ p _.
    let e : suc k + size kids + size (above n later) ≡ k + suc (size kids + size (above n later)) = omega arith in
    simp p ((h.0, h.1, ih.0), subst (λ (m : ℕ). Rows w m (not_above n later)) e ih.1))
    (λ p _. simp p (tt, subst (λ (m : ℕ). Rows w m (item s kids later)) (let e : k ≡ k + 0 = omega arith in e) h))

pub rows-forest : (w : List Row) (k n : ℕ) → Rows w k (forest (statements_from w k n))
unfolding forest statements_from
rows-forest w k zero = tt
rows-forest w k (suc n) =
    let sides = rows-sides w (statement_at w k).level (suc k) (forest (statements_from w (suc k) n)) (rows-forest w (suc k) n) in
    (refl, sides.0, sides.1)

rows_same : (w w' : List Row) → ((j : ℕ) → statement_at w j ≡ statement_at w' j) → (k : ℕ) (f : Forest) → Rows w k f → Rows w' k f
rows_same w w' h k leaf r = tt
rows_same w w' h k (item s kids later) r =
    (sym (h k) ∙ r.0, rows_same w w' h (suc k) kids r.1, rows_same w w' h (suc k + size kids) later r.2)

-- ---------------------------------------------------------------- entries in rows

-- the entries of a list are read from its rows
pub entries-same :
    (w w' : List Row) (k : ℕ) (f : Forest) →
    ((j : ℕ) → k ≤ j → j < k + size f → entry_in w j ≡ entry_in w' j) →
    entries_in w k f ≡ entries_in w' k f
unfolding entries_in
entries-same w w' k leaf h = refl
entries-same w w' k (item s kids later) h =
    let own = h k (omega arith) (omega arith) in
    let members = entries-same w w' (suc k) kids (λ j p m. h j (omega arith) (omega arith)) in
    let more = entries-same w w' (suc k + size kids) later (λ j p m. h j (omega arith) (omega arith)) in
    λ i. entry (own i) (members i) (more i)

-- an entry by its statement and what a place holds of it
abbrev as_placed : Statement → Entry → Entry
as_placed s e =
    record (entry_of s (pictured e.kind e.digits 0) e.offset e.slack 0 0) {
      width = e.width;
      slack_at_end = e.slack_at_end;
    }

-- an entry is its statement's, at its place
pub entry-placed :
    (r : Row) (s : Statement) (e : Entry) →
    EntryOf s e →
    r.statement ≡ s →
    as_placed r.statement e ≡ e
entry-placed r s e o h = ap (λ (x : Statement). as_placed x e) h ∙ ap (as_placed s) o.is ∙ sym o.is

-- ---------------------------------------------------------------- a row, its children and the rest

module _ (w : List Row) (i to j : ℕ) (h : ChildrenEnd w i to j) where
  pub next_row : suc i + size (rows_forest w (suc i) j) ≡ j
  next_row = omega (arith, size-stretch w (suc i) j, h.low)

  -- row i, its children up to j, and the rest
  pub entries-step : entries_in w i (rows_forest w i to) ≡ entry (entry_in w i) (entries_in w (suc i) (rows_forest w (suc i) j)) (entries_in w j (rows_forest w j to))
  unfolding entries_in
  entries-step =
      ap (entries_in w i) (forest-split w i to j h)
      ∙ ap (λ (n : ℕ). entry (entry_in w i) (entries_in w (suc i) (rows_forest w (suc i) j)) (entries_in w n (rows_forest w j to))) next_row

  pub linked-step :
      (t : List ℕ) (last : ℕ) →
      Linked t w i last (rows_forest w i to) →
      RowLinked t w i last (rows_forest w (suc i) j) × Linked t w (suc i) 0 (rows_forest w (suc i) j) × Linked t w j (suc i) (rows_forest w j to)
  linked-step t last l =
      let all = subst (Linked t w i last) (forest-split w i to j h) l in
      (all.0, all.1, subst (λ (n : ℕ). Linked t w n (suc i) (rows_forest w j to)) next_row all.2)

  pub counted_step :
      BelowCounted w i (rows_forest w i to) →
      ((row_in w i).below ≡ size (rows_forest w (suc i) j))
      × BelowCounted w (suc i) (rows_forest w (suc i) j)
      × BelowCounted w j (rows_forest w j to)
  counted_step l =
      let all = subst (BelowCounted w i) (forest-split w i to j h) l in
      (all.0, all.1, subst (λ (n : ℕ). BelowCounted w n (rows_forest w j to)) next_row all.2)

-- a row of a list counts the rows below it
pub counted-numbered :
    (w : List Row) (i to : ℕ) → to ≤ length w → i < to → BelowCounted w i (rows_forest w i to) → Numbered w i to
counted-numbered w i to fits h l =
    let j = suc i + higher (statement_at w i).level (statements_from w (suc i) (to - suc i)) in
    let c : ChildrenEnd w i to j = children-end w i to h in
    let at : j ≡ suc i + (row_in w i).below =
    sym (ap (λ (n : ℕ). suc i + n) (counted_step w i to j c l).0 ∙ next_row w i to j c) in
    record { low = h; fits = fits; is = subst (ChildrenEnd w i to) at c }

pub linked-counted : (t : List ℕ) (w : List Row) (f : Forest) (k last : ℕ) → Linked t w k last f → BelowCounted w k f
linked-counted t w leaf k last l = tt
linked-counted t w (item s kids later) k last l =
    (l.0.below, linked-counted t w kids (suc k) 0 l.1, linked-counted t w later (suc k + size kids) (suc k) l.2)

pub linked-numbered :
    (t : List ℕ) (w : List Row) (i to last : ℕ) →
    to ≤ length w →
    i < to →
    Linked t w i last (rows_forest w i to) →
    Numbered w i to
linked-numbered t w i to last fits h l =
    counted-numbered w i to fits h (linked-counted t w (rows_forest w i to) i last l)

-- the rows of a list stay counted where their counts stay as they are
pub counted_same :
    (w w' : List Row) (f : Forest) (k : ℕ) →
    ((j : ℕ) → k ≤ j → (row_in w j).below ≡ (row_in w' j).below) →
    BelowCounted w k f →
    BelowCounted w' k f
counted_same w w' leaf k h x = tt
counted_same w w' (item s kids later) k h x = (
  sym (h k (omega arith)) ∙ x.0,
  counted_same w w' kids (suc k) (λ j l. h j (omega arith)) x.1,
  counted_same w w' later (suc k + size kids) (λ j l. h j (omega arith)) x.2,
)

-- and where what is known of the rows does
pub counted-kept :
    (w w' : List Row) →
    ((k : ℕ) → known (row_in w k) ≡ known (row_in w' k)) →
    (a b : ℕ) →
    BelowCounted w a (rows_forest w a b) →
    BelowCounted w' a (rows_forest w' a b)
counted-kept w w' h a b x =
    subst (BelowCounted w' a) (ap forest (statements-same w w' (λ k. ap (λ (y : Statement × ℕ × ℕ × Option ℕ). y.0) (h k)) a (b - a)))
    (counted_same w w' (rows_forest w a b) a (λ j _. ap (λ (y : Statement × ℕ × ℕ × Option ℕ). y.1) (h j)) x)

-- a list stays linked where its rows stay as they are but for the next ones of their unions, and what is found from
-- before it
pub linked-same :
    (t : List ℕ) (w w' : List Row) (f : Forest) (k last : ℕ) →
    last ≤ k →
    ((j : ℕ) → k ≤ j → j < k + size f → unnamed (row_in w j) ≡ unnamed (row_in w' j)) →
    plain_after w last ≡ plain_after w' last →
    ((bases : Bool) (target : Span) → found t w target bases last ≡ found t w' target bases last) →
    Linked t w k last f →
    Linked t w' k last f
linked-same t w w' leaf k last l h plain same x = tt
linked-same t w w' (item s kids later) k last l h plain same x =
    let row : unnamed (row_in w k) ≡ unnamed (row_in w' k) = h k (omega arith) (omega arith) in
    let of : (row_in w k).statement ≡ (row_in w' k).statement = ap (λ (r : Row). r.statement) row in
    let before : before_in w' k ≡ last = sym (ap (λ (r : Row). k - r.place.gap) row) ∙ x.0.before in (
      record {
        before = before;
        below = sym (ap (λ (r : Row). r.below) row) ∙ x.0.below;
        base = sym (ap (λ (r : Row). row_code r.place.base) row) ∙ x.0.base ∙ after_same t true w w' k last of (same true);
        plain = sym (ap (λ (r : Row). row_code r.place.plain) row) ∙ x.0.plain ∙ plain;
        target = sym (ap (λ (r : Row). row_code r.place.target) row) ∙ x.0.target ∙ after_same t false w w' k last of (same false);
      },
      linked-same t w w' kids (suc k) 0 (omega arith) (λ j p q. h j (omega arith) (omega arith)) refl (λ bases target. found_none t w target bases ∙ sym (found_none t w' target bases)) x.1,
      linked-same t w w' later (suc k + size kids) (suc k) (omega arith) (λ j p q. h j (omega arith) (omega arith))
          (plain-next w w' k of (ap (λ (r : Row). r.place.plain) row))
          (λ bases target.
          found-step t w target bases k last x.0.before l
          ∙ ap₂ (λ (s : Statement) (n : ℕ). if (if bases && is_given s.clauses.redefines then false else same_name t target s.name) then suc k else n) of (same bases target)
          ∙ sym (found-step t w' target bases k last before l))
          x.2,
    )

-- ---------------------------------------------------------------- the places of a list

-- the entries of a list as the rows hold them, and how the rows stand together
pub record Held (t : List ℕ) (w : List Row) (k last : ℕ) (f : Forest) (es : Entries) : Type 0 where
  pub entries : entries_in w k f ≡ es
  pub linked : Linked t w k last f

pub places-held :
    (t : List ℕ) (f : Forest) (es : Entries) (w : List Row) (k last : ℕ) →
    last ≤ k →
    Of f es →
    Rows w k f →
    BelowCounted w k f →
    k + size f ≤ length w →
    Held t (put_places t w k last es) k last f es
unfolding entries_in put_places
places-held t leaf end w k last b o r x fits = record { entries = refl; linked = tt }
places-held t leaf (entry e members more) w k last b o r x fits = absurd o
places-held t (item s kids later) end w k last b o r x fits = absurd o
places-held t (item s kids later) (entry e members more) w k last b o r x fits =
    let m : entries# members ≡ size kids = of_size kids members o.1 in
    let w₁ = members_put t w k members in
    let w₂ = first_put t w k last e members in
    let n = suc k + entries# members in
    let at : n ≡ suc k + size kids = omega (arith, m) in
    let w₃ = put_places t w₂ n (suc k) more in
    let l₁ : length w₁ ≡ length w = length-places t members w (suc k) 0 in
    let l₂ : length w₂ ≡ length w = length-set w₁ k (placed_in t w₁ k last e) ∙ l₁ in
    let known₁ : (j : ℕ) → known (row_in w₁ j) ≡ known (row_in w j) = known-places t members w (suc k) 0 in
    let known₂ : (j : ℕ) → known (row_in w j) ≡ known (row_in w₂ j) =
    λ j. sym (known-place t w₁ k last e j ∙ known₁ j) in
    let s₁ : statement_at w₁ k ≡ s = ap (λ (y : Statement × ℕ × ℕ × Option ℕ). y.0) (known₁ k) ∙ r.0 in
    let s₂ : (j : ℕ) → statement_at w j ≡ statement_at w₂ j = λ j. ap (λ (y : Statement × ℕ × ℕ × Option ℕ). y.0) (known₂ j) in
    let here : row_in w₃ k ≡ placed_in t w₁ k last e = first_place t e members more w k last (omega arith) in
    let own : entry_in w₃ k ≡ e = ap entry_at here ∙ entry-placed (row_in w₁ k) s e o.0 s₁ in
    let inner = places-held t kids members w (suc k) 0 (omega arith) o.1 r.1 x.1 (omega arith) in
    let rest =
    places-held t later more w₂ (suc k + size kids) (suc k) (omega arith) o.2
    (rows_same w w₂ s₂ (suc k + size kids) later r.2)
    (counted_same w w₂ later (suc k + size kids) (λ j _. ap (λ (y : Statement × ℕ × ℕ × Option ℕ). y.1) (known₂ j)) x.2)
    (omega (arith, l₂)) in
    let rest' : Held t w₃ (suc k + size kids) (suc k) later more = subst (λ (x : ℕ). Held t (put_places t w₂ x (suc k) more) (suc k + size kids) (suc k) later more) (sym at) rest in
    let low : (j : ℕ) → j < k → row_in w₁ j ≡ row_in w₃ j =
    λ j l. sym (before-places t more w₂ n (suc k) j (omega arith) ∙ place-other t w₁ k last e j (λ z. omega arith)) in
    let kept : (j : ℕ) → suc k ≤ j → j < suc k + size kids → row_in w₁ j ≡ row_in w₃ j =
    λ j l q. sym (before-places t more w₂ n (suc k) j (omega arith) ∙ place-other t w₁ k last e j (λ z. omega arith)) in
    let of : statement_at w₁ k ≡ statement_at w₃ k = sym (ap (λ (r : Row). r.statement) here) in
    let members-held : entries_in w₃ (suc k) kids ≡ members =
    sym (entries-same w₁ w₃ (suc k) kids (λ j l q. ap entry_at (kept j l q))) ∙ inner.entries in
    record {
      entries = λ i. entry (own i) (members-held i) (rest'.entries i);
      linked = (
        record {
          before = ap (λ (r : Row). k - r.place.gap) here ∙ back_by k last b;
          below = ap (λ (r : Row). r.below) here ∙ ap (λ (y : Statement × ℕ × ℕ × Option ℕ). y.1) (known₁ k) ∙ x.0;
          base =
              ap (λ (r : Row). row_code r.place.base) here
              ∙ code-back (base_after t w₁ k last)
              ∙ searched_same t true w₁ w₃ k last of (λ j l. low j (omega arith));
          plain =
              ap (λ (r : Row). row_code r.place.plain) here
              ∙ code-back (plain_after w₁ last)
              ∙ plain-same w₁ w₃ last (λ j l. low j (omega arith));
          target =
              ap (λ (r : Row). row_code r.place.target) here
              ∙ code-back (target_after t w₁ k last)
              ∙ searched_same t false w₁ w₃ k last of (λ j l. low j (omega arith));
        },
        linked-same t w₁ w₃ kids (suc k) 0 (omega arith) (λ j l q. ap unnamed (kept j l q)) refl (λ bases target. found_none t w₁ target bases ∙ sym (found_none t w₃ target bases)) inner.linked,
        rest'.linked,
      );
    }
