-- A folded list, row by row along the rows that hold it: what a row comes to, and then the rest; the redefiners of a
-- row.
-- Assumes nothing.
use Prim.Native.Nat.{ℕ, suc, ◌+◌, ◌-◌, ◌≤◌, ◌<◌}
use mathlib.Core.Path.{◌≡◌, refl, sym, ap, subst, ◌∙◌}
use mathlib.Core.Bool.{Bool, true, false}
use mathlib.Core.List.{List}
use native.Mathlib.Numerals.{add-one}
use native.Mathlib.Omega.{arith}
use Rattle.std.specs.Prelude.{if◌then◌else◌}
use Rattle.definition.specs.Basic.{is_given}
use lib.Dec.{ltb}
use lib.ListN.{length}
use Rattle.definition.specs.Tree.{Forest, leaf, item, higher}
use Rattle.definition.specs.Fold.{Entries, end, entry, append, Place, same_name, rebased, redefiners, folded_list}
use Rattle.definition.specs.Fold.{folded_below, folded_all}
use Rattle.definition.specs.Owner.{size}
use Rattle.definition.specs.Search.{entries#}
use Rattle.definition.proofs.LayoutLaws.{redefiners-hit, redefiners-miss, redefiners-ends, redefiners-next}
use Rattle.rows.specs.declared.Row.{Row}
use Rattle.rows.specs.Rows.{row_code, row_in, before_in, statement_at, statements_from}
use Rattle.layout.specs.Targets.{seen_from, bases_at, base_from, base_after, place_at}
use Rattle.layout.specs.Places.{entry_in, entries_in, Linked, rows_forest}
use Rattle.layout.specs.Children.{ChildrenEnd, Numbered}
use Rattle.layout.proofs.EntriesLaws.{next_row, entries-step, linked-step, linked-numbered}
use Rattle.layout.proofs.RowLaws.{children-end, forest-split, forest-empty}
use Rattle.layout.specs.Shown.{list_in, redefiners_in, folded_rest, shown_at, union_of, next_in, IsBase, Known, Marked}
use Rattle.layout.proofs.BaseLaws.{bases-after, base-found}
use Rattle.layout.proofs.FoldedLaws.{append-end, append-append, list-step}

-- ---------------------------------------------------------------- one row

-- no rows
pub list-none : (w : List Row) (a b : ℕ) → b ≤ a → list_in w a b ≡ end
unfolding entries_in
list-none w a b h = ap (entries_in w a) (forest-empty w a b h)

-- a list has an entry for each row
pub entries-size : (w : List Row) (f : Forest) (k : ℕ) → entries# (entries_in w k f) ≡ size f
unfolding entries_in
entries-size w leaf k = refl
entries-size w (item s kids later) k = omega (arith, entries-size w kids (suc k), entries-size w later (suc k + size kids))

-- what row i holds, whose children end at j, and its siblings at `to`
pub record RowIs (t : List ℕ) (w : List Row) (i j to last : ℕ) : Type 0 where
  pub before : before_in w i ≡ last
  pub base : row_code (row_in w i).place.base ≡ base_after t w i last
  pub chain : row_code (row_in w i).place.next ≡ next_in w (union_of w i) j (rows_forest w j to)

module _ (w : List Row) (i to j : ℕ) (h : ChildrenEnd w i to j) where
  -- row i, its children up to j, and the rest
  pub list-split : list_in w i to ≡ entry (entry_in w i) (list_in w (suc i) j) (list_in w j to)
  list-split = entries-step w i to j h

  -- what row i holds, its children and the rest
  pub marked_step :
      (t : List ℕ) (last : ℕ) →
      Marked t w i last (rows_forest w i to) →
      RowIs t w i j to last × Marked t w (suc i) 0 (rows_forest w (suc i) j) × Marked t w j (suc i) (rows_forest w j to)
  marked_step t last l =
      let all = subst (Marked t w i last) (forest-split w i to j h) l in
      let next = next_row w i to j h in
      let row = all.0 in
      let chain : row_code (row_in w i).place.next ≡ next_in w (union_of w i) j (rows_forest w j to) = row.next ∙ ap (λ (n : ℕ). next_in w (union_of w i) n (rows_forest w j to)) next in
      (record { before = row.row.before; base = row.row.base; chain = chain }, all.1, subst (λ (n : ℕ). Marked t w n (suc i) (rows_forest w j to)) next all.2)

pub marked-linked : (t : List ℕ) (w : List Row) (f : Forest) (k last : ℕ) → Marked t w k last f → Linked t w k last f
marked-linked t w leaf k last h = tt
marked-linked t w (item s kids later) k last h =
    (h.0.row, marked-linked t w kids (suc k) 0 h.1, marked-linked t w later (suc k + size kids) (suc k) h.2)

-- a row of a list counts the rows below it
pub marked-numbered : (t : List ℕ) (w : List Row) (i to last : ℕ) → to ≤ length w → i < to → Marked t w i last (rows_forest w i to) → Numbered w i to
marked-numbered t w i to last fits h m = linked-numbered t w i to last fits h (marked-linked t w (rows_forest w i to) i last m)

-- and a redefiner knows whether it has a base
pub marked-known : (t : List ℕ) (w : List Row) (i to last : ℕ) → to ≤ length w → last ≤ i → i < to → Marked t w i last (rows_forest w i to) → Known t w i last
marked-known t w i to last fits back h m =
    let j = suc i + higher (statement_at w i).level (statements_from w (suc i) (to - suc i)) in
    let c : ChildrenEnd w i to j = children-end w i to h in
    let row = (marked_step w i to j c t last m).0 in
    let r = (row_in w i).statement.clauses.redefines in
    record {
      fits = omega arith;
      back = back;
      is =
          λ g.
          base-found t w r last last
          ∙ ap (ltb 0) (sym (row.base ∙ ap (λ (b : Bool). if b then base_from t r w last last else 0) g));
    }

-- ---------------------------------------------------------------- redefiners

module _ (t : List ℕ) (w : List Row) (i k to : ℕ) where
  pub redefined-none : to ≤ k → redefiners_in t w i k to ≡ end
  unfolding redefiners
  redefined-none h = ap (redefiners t (place_at w i)) (list-none w k to h)

  module _ {m : ℕ} (h : ChildrenEnd w k to m) where
    -- row k and the rest
    split : redefiners_in t w i k to ≡ redefiners t (place_at w i) (entry (entry_in w k) (list_in w (suc k) m) (list_in w m to))
    split = ap (redefiners t (place_at w i)) (list-split w k to m h)

    -- the redefiners of row i from row k on: row k redefines it, or another row
    module _ (g : is_given (row_in w k).statement.clauses.redefines ≡ true) where
      pub redefined-hit :
          same_name t (row_in w i).statement.name (row_in w k).statement.clauses.redefines ≡ true →
          redefiners_in t w i k to ≡ entry (rebased (row_in w i).place.offset (entry_in w k)) (list_in w (suc k) m) (redefiners_in t w i m to)
      redefined-hit q = split ∙ redefiners-hit t (place_at w i) (entry_in w k) (list_in w (suc k) m) (list_in w m to) g q

      pub redefined-miss : same_name t (row_in w i).statement.name (row_in w k).statement.clauses.redefines ≡ false → redefiners_in t w i k to ≡ redefiners_in t w i m to
      redefined-miss q = split ∙ redefiners-miss t (place_at w i) (entry_in w k) (list_in w (suc k) m) (list_in w m to) g q

    -- or it is the next base of its name, or a base of another
    module _ (g : IsBase w k) where
      pub redefined-ends : same_name t (row_in w i).statement.name (row_in w k).statement.name ≡ true → redefiners_in t w i k to ≡ end
      redefined-ends q = split ∙ redefiners-ends t (place_at w i) (entry_in w k) (list_in w (suc k) m) (list_in w m to) g q

      pub redefined-next : same_name t (row_in w i).statement.name (row_in w k).statement.name ≡ false → redefiners_in t w i k to ≡ redefiners_in t w i m to
      redefined-next q = split ∙ redefiners-next t (place_at w i) (entry_in w k) (list_in w (suc k) m) (list_in w m to) g q

-- ---------------------------------------------------------------- the folded list

-- what row i comes to, and then the rest
rest-step :
    (t : List ℕ) (w : List Row) (i to last j : ℕ) →
    ChildrenEnd w i to j →
    before_in w i ≡ last →
    last ≤ i →
    folded_rest t w i to last ≡ append (shown_at t w i j to last) (folded_rest t w j to (suc i))
unfolding folded_below
rest-step t w i to last j h e l =
    ap (λ (es : Entries). folded_list t (bases_at w last) (folded_below t es)) (list-split w i to j h)
    ∙ list-step t (bases_at w last) (entry_in w i) (folded_all t (list_in w (suc i) j)) (folded_below t (list_in w j to))
    ∙ ap (λ (ps : List Place). append (shown_at t w i j to last) (folded_list t ps (folded_below t (list_in w j to)))) (sym (bases-after w i last e l))

-- the list is gone through up to row i, after the sibling `last`: what is done and what is left
pub record Walking (t : List ℕ) (w : List Row) (from to i last : ℕ) (done : Entries) : Type 0 where
  pub low : from ≤ i
  pub back : last ≤ i
  pub linked : Linked t w i last (rows_forest w i to)
  pub same : folded_all t (list_in w from to) ≡ append done (folded_rest t w i to last)

pub walking-starts : (t : List ℕ) (w : List Row) (from to : ℕ) → Linked t w from 0 (rows_forest w from to) → Walking t w from to from 0 end
unfolding seen_from append
walking-starts t w from to h = record { low = omega arith; back = omega arith; linked = h; same = refl }

module _ {t : List ℕ} {w : List Row} {from to i last : ℕ} {done : Entries} (inv : Walking t w from to i last done) where
  -- nothing is left
  pub walking-ends : to ≤ i → folded_all t (list_in w from to) ≡ done
  unfolding folded_below folded_list
  walking-ends h =
      inv.same
      ∙ ap (λ (es : Entries). append done (folded_list t (bases_at w last) (folded_below t es))) (list-none w i to h)
      ∙ append-end done

  module _ {j : ℕ} (h : ChildrenEnd w i to j) where
    -- row i is next
    pub walking_here : folded_all t (list_in w from to) ≡ append done (append (shown_at t w i j to last) (folded_rest t w j to (suc i)))
    walking_here =
        inv.same ∙ ap (append done) (rest-step t w i to last j h (linked-step w i to j h t last inv.linked).0.before inv.back)

    -- row i is done
    pub walking_on : Walking t w from to j (i + 1) (append done (shown_at t w i j to last))
    walking_on =
        let rest = walking_here ∙ sym (append-append done (shown_at t w i j to last) (folded_rest t w j to (suc i))) in
        record {
          low = omega (arith, h.low, inv.low);
          back = omega (arith, h.low);
          linked = subst (λ (n : ℕ). Linked t w j n (rows_forest w j to)) (sym (add-one i)) (linked-step w i to j h t last inv.linked).2;
          same = subst (λ (n : ℕ). folded_all t (list_in w from to) ≡ append (append done (shown_at t w i j to last)) (folded_rest t w j to n)) (sym (add-one i)) rest;
        }
