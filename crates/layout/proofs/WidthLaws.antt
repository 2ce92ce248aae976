-- How wide the rows are in the folded list, and where they end: a row alone, a base with its redefiners; and the parts
-- of a table of rows.
-- Assumes nothing.
use Prim.Native.Nat.{ℕ, zero, suc, ◌+◌, ◌-◌, ◌≤◌, ◌<◌}
use mathlib.Core.Path.{◌≡◌, refl, sym, ap, subst, ◌∙◌}
use lib.Dec.{eqb}
use lib.ListN.{length}
use borrow.Author.Tests.{lt-ltb, le-ltb, eq-eqb, ne_eqb, eqb-true}
use Rattle.definition.specs.declared.Span.{Span}
use mathlib.Core.Bool.{Bool, true, false}
use mathlib.Core.List.{List}
use mathlib.Core.Logic.{⊎_elim}
use native.Mathlib.Numerals.{add-one}
use native.Mathlib.Omega.{arith}
use Rattle.std.specs.Prelude.{if◌then◌else◌}
use Rattle.definition.specs.Basic.{is_given}
use Rattle.definition.specs.Fold.{Entries, end, entry, append, Place, find, same_name, rebased, has_base}
use Rattle.definition.proofs.Lists.{order}
use Rattle.definition.specs.Tree.{Forest, leaf, item, higher}
use Rattle.definition.specs.Owner.{size}
use Rattle.rows.specs.declared.Row.{Row}
use Rattle.rows.specs.Rows.{row_code, row_in, before_in, statement_at, statements_from}
use Rattle.layout.proofs.RowLaws.{children-end, forest-empty, forest-split}
use Rattle.layout.proofs.EntriesLaws.{next_row}
use Rattle.definition.proofs.WordLaws.{never}
use Rattle.text.proofs.SameLaws.{swapped}
use Rattle.layout.specs.Targets.{is_target, base_after}
use Rattle.layout.specs.Places.{entry_in, rows_forest}
use Rattle.layout.specs.Children.{ChildrenEnd, Numbered}
use Rattle.layout.proofs.SearchLaws.{back, back_step}
use Rattle.layout.specs.declared.unions.Standing.{Standing}
use Rattle.layout.specs.Shown.{standing, list_in, redefiners_in, shown_at, union_of, next_in, Findable, IsBase, Known}
use Rattle.layout.specs.Shown.{Marked, Sized, Tree, Branch, Base, SizedRow}
use Rattle.layout.proofs.BaseLaws.{if-not, opens, passes, differs, closes}
use Rattle.layout.proofs.ShownLaws.{RowIs, marked_step, marked-linked, marked-numbered, marked-known}
use Rattle.layout.proofs.ShownLaws.{redefined-none, redefined-hit, redefined-miss, redefined-ends}
use Rattle.layout.proofs.ShownLaws.{redefined-next, Walking, walking-starts, walking_on}

-- ---------------------------------------------------------------- parts of a table

sized-part : {w : List Row} {a b : ℕ} → Sized w a b → (c d : ℕ) → a ≤ c → d ≤ b → Sized w c d
sized-part s c d l h = record { totals = λ k p q. s.totals k (omega arith) (omega arith) }

module _ {t : List ℕ} {w : List Row} {i j to : ℕ} (b : Branch t w i j to) where
  pub branch_row : SizedRow w i
  branch_row = record { fits = omega (arith, b.low, b.high, b.fits); small = b.sized.totals i (omega arith) (omega (arith, b.low, b.high)) }

  -- as a base
  pub branch-base : IsBase w i → Base t w i j to
  branch-base g = record { low = b.low; high = b.high; fits = b.fits; next = b.next g; opened = b.opened g; branch = b }

-- a row that stands as a base is one
pub stands-base :
    (t : List ℕ) (w : List Row) (i : ℕ) (bases : List Place) {s : Standing} →
    s ≡ standing t bases (entry_in w i) →
    s ≡ Standing.Base →
    IsBase w i
stands-base t w i bases p e = go (is_given (row_in w i).statement.clauses.redefines) refl (sym p ∙ e)
  where
    is_base : Standing → Bool
    is_base Standing.Under = false
    is_base Standing.Alone = false
    is_base Standing.Base = true

    not-either : (a : Bool) → (if a then Standing.Under else Standing.Alone) ≡ Standing.Base → ⊥
    not-either true x = never (ap is_base x)
    not-either false x = never (ap is_base x)

    go : (g : Bool) → is_given (row_in w i).statement.clauses.redefines ≡ g → standing t bases (entry_in w i) ≡ Standing.Base → is_given (row_in w i).statement.clauses.redefines ≡ false
    go true q x =
        let r = (row_in w i).statement.clauses.redefines in
        let a = has_base (find t r bases) in
        absurd (not-either a (sym (ap (λ (y : Bool). if y then (if a then Standing.Under else Standing.Alone) else Standing.Base) q) ∙ x))
    go false q x = q

-- a row of a list, after the sibling `last`, with its children and its later siblings
module _ (t : List ℕ) (w : List Row) {i to last : ℕ} (fits : to ≤ length w) (before : last ≤ i) (sized : Sized w i to) (m : Marked t w i last (rows_forest w i to)) {j : ℕ} (h : ChildrenEnd w i to j) where
  own-union : IsBase w i → row_code (row_in w i).place.base ≡ base_after t w i last → union_of w i ≡ suc i
  own-union g e =
      let r = (row_in w i).statement.clauses.redefines in
      let none : row_code (row_in w i).place.base ≡ 0 = e ∙ ap (λ (b : Bool). if b then back t w r last else 0) g in
      ap (λ (b : Bool). if b then row_code (row_in w i).place.base else suc i) (le-ltb 0 (row_code (row_in w i).place.base) (omega (arith, none)))

  pub marked-branch : Branch t w i j to
  marked-branch =
      let row = marked_step w i to j h t last m in
      record {
        low = h.low;
        high = h.high;
        fits = fits;
        next = λ g. row.0.chain ∙ ap (λ (u : ℕ). next_in w u j (rows_forest w j to)) (own-union g row.0.base);
        opened = λ g. opens t w i i last row.0.before before refl g;
        marks = row.1;
        later = row.2;
        sized = sized;
      }

  -- and whether it has a base is known, after the sibling that it names
  pub named-known : Known t w i (before_in w i)
  named-known =
      subst (Known t w i) (sym (marked_step w i to j h t last m).0.before)
      (marked-known t w i to last fits before (omega (arith, h.low, h.high)) m)

-- ---------------------------------------------------------------- the loop

-- a walk along the rows of a table
pub record Along (t : List ℕ) (w : List Row) (from to i last : ℕ) (done : Entries) : Type 0 where
  pub tree : Tree t w from to
  pub low : from ≤ i
  pub back : last ≤ i
  pub marks : Marked t w i last (rows_forest w i to)
  pub walk : Walking t w from to i last done

pub along-starts : (t : List ℕ) (w : List Row) (from to : ℕ) → Tree t w from to → Along t w from to from 0 end
along-starts t w from to h =
    record {
      tree = h;
      low = omega arith;
      back = omega arith;
      marks = h.marks;
      walk = walking-starts t w from to (marked-linked t w (rows_forest w from to) from 0 h.marks);
    }

module _ {t : List ℕ} {w : List Row} {from to i last : ℕ} {done : Entries} (inv : Along t w from to i last done) where
  module _ {j : ℕ} (h : ChildrenEnd w i to j) where
    -- the sibling before row i
    pub along-before : before_in w i ≡ last
    along-before = (marked_step w i to j h t last inv.marks).0.before

    -- row i, as the loop names it
    pub along-sibling : {row : ℕ} → row ≡ i → Branch t w row j to × Known t w row (before_in w row)
    along-sibling at =
        let sized = sized-part inv.tree.sized i to inv.low (omega arith) in
        subst (λ (k : ℕ). Branch t w k j to × Known t w k (before_in w k)) (sym at)
        (marked-branch t w inv.tree.fits inv.back sized inv.marks h, named-known t w inv.tree.fits inv.back sized inv.marks h)

    pub along-on : Along t w from to j (i + 1) (append done (shown_at t w i j to last))
    along-on =
        record {
          tree = inv.tree;
          low = omega (arith, inv.low, h.low);
          back = omega (arith, h.low);
          marks = subst (λ (n : ℕ). Marked t w j n (rows_forest w j to)) (sym (add-one i)) (marked_step w i to j h t last inv.marks).2;
          walk = walking_on inv.walk h;
        }

-- ---------------------------------------------------------------- the redefiners of a base

-- row `row`, from row k on, is the first that names row i as its base: the redefiners es of row i begin there
pub record Next (t : List ℕ) (w : List Row) (i k to : ℕ) (es : Entries) (row : ℕ) : Type 0 where
  pub low : k ≤ row
  pub high : row < to
  pub before : ℕ
  pub back : before ≤ row
  pub opened : Findable t w i before
  pub marks : Marked t w row before (rows_forest w row to)
  pub names : row_code (row_in w row).place.base ≡ suc i
  pub same : es ≡ redefiners_in t w i row to

-- the redefiners es of row i from row k on, by what the chain names: none, or a row and 1
abbrev pub Onward : List ℕ → List Row → ℕ → ℕ → ℕ → Entries → ℕ → Type 0
Onward t w i k to es zero = es ≡ end
Onward t w i k to es (suc row) = Next t w i k to es row

onward-from : (t : List ℕ) (w : List Row) (i to : ℕ) {k m : ℕ} {es fs : Entries} (n : ℕ) → k ≤ m → es ≡ fs → Onward t w i m to fs n → Onward t w i k to es n
onward-from t w i to zero l e h = e ∙ h
onward-from t w i to (suc row) l e h =
    record {
      low = omega (arith, h.low);
      high = h.high;
      before = h.before;
      back = h.back;
      opened = h.opened;
      marks = h.marks;
      names = h.names;
      same = e ∙ h.same;
    }

-- no row of a list names row i, where no search from before the list finds it
none-names :
    (t : List ℕ) (w : List Row) (f : Forest) (i k last : ℕ) →
    Marked t w k last f →
    last ≤ k →
    i < k →
    ((target : Span) → back t w target last ≡ suc i → ⊥) →
    next_in w (suc i) k f ≡ 0
unfolding next_in
none-names t w leaf i k last m l h apart = refl
none-names t w (item s kids later) i k last m l h apart =
    let r = (row_in w k).statement.clauses.redefines in
    let own : eqb (row_code (row_in w k).place.base) (suc i) ≡ false = ne_eqb (row_code (row_in w k).place.base) (suc i) (λ e. not-given (is_given r) (apart r) (sym m.0.row.base ∙ e)) in
    let rest =
    none-names t w later i (suc k + size kids) (suc k) m.2 (omega arith) (omega arith)
    (λ target e. if-not (is_target t target true w k) (λ q. omega arith) (λ _. apart target) (sym (back_step t w target k last m.0.row.before l) ∙ e)) in
    ap (λ (b : Bool). if b then suc k else next_in w (suc i) (suc k + size kids) later) own ∙ rest
  where
    not-given : (b : Bool) {x z : ℕ} → (x ≡ suc z → ⊥) → (if b then x else 0) ≡ suc z → ⊥
    not-given true p e = p e
    not-given false p e = omega arith

module _ (t : List ℕ) (w : List Row) (i to : ℕ) where
  next-empty : (k : ℕ) → to ≤ k → next_in w (suc i) k (rows_forest w k to) ≡ 0
  unfolding next_in
  next-empty k h = ap (next_in w (suc i) k) (forest-empty w k to h)

  next-step : (k m : ℕ) → ChildrenEnd w k to m → next_in w (suc i) k (rows_forest w k to) ≡ (if eqb (row_code (row_in w k).place.base) (suc i) then suc k else next_in w (suc i) m (rows_forest w m to))
  unfolding next_in
  next-step k m h =
      ap (next_in w (suc i) k) (forest-split w k to m h)
      ∙ ap (λ (n : ℕ). if eqb (row_code (row_in w k).place.base) (suc i) then suc k else next_in w (suc i) n (rows_forest w m to)) (next_row w k to m h)

  -- the chain names the first redefiner from row k on, or none
  onward :
      (n k last : ℕ) →
      to - k ≤ n →
      i < k →
      last ≤ k →
      Findable t w i last →
      Marked t w k last (rows_forest w k to) →
      Onward t w i k to (redefiners_in t w i k to) (next_in w (suc i) k (rows_forest w k to))
  onward zero k last f h l o m =
      subst (Onward t w i k to (redefiners_in t w i k to)) (sym (next-empty k (omega arith))) (redefined-none t w i k to (omega arith))
  onward (suc n) k last f h l o m =
      let ih = onward n in
      ⊎_elim
      (λ (more : k < to). there more ih)
      (λ (none : to ≤ k). subst (Onward t w i k to (redefiners_in t w i k to)) (sym (next-empty k none)) (redefined-none t w i k to none))
      (order k to)
    where
      there :
          k < to →
          ((j before : ℕ) → to - j ≤ n → i < j → before ≤ j → Findable t w i before → Marked t w j before (rows_forest w j to) → Onward t w i j to (redefiners_in t w i j to) (next_in w (suc i) j (rows_forest w j to))) →
          Onward t w i k to (redefiners_in t w i k to) (next_in w (suc i) k (rows_forest w k to))
      there more ih =
          let j = suc k + higher (statement_at w k).level (statements_from w (suc k) (to - suc k)) in
          let c : ChildrenEnd w k to j = children-end w k to more in
          let row = marked_step w k to j c t last m in
          let rest = ih j (suc k) (omega (arith, c.low)) (omega (arith, c.low)) c.low in
          let name = (row_in w i).statement.name in
          let r = (row_in w k).statement.clauses.redefines in
          subst (Onward t w i k to (redefiners_in t w i k to)) (sym (next-step k j c))
          (by_row j c (eqb (row_code (row_in w k).place.base) (suc i)) refl (is_given r) refl (same_name t name r) refl (same_name t name (row_in w k).statement.name) refl row.0 (λ o'. rest o' row.2) (none-names t w (rows_forest w j to) i j (suc k) row.2 c.low (omega (arith, c.low))))
        where
          by_row :
              (j : ℕ) →
              ChildrenEnd w k to j →
              (x : Bool) →
              eqb (row_code (row_in w k).place.base) (suc i) ≡ x →
              (g : Bool) →
              is_given (row_in w k).statement.clauses.redefines ≡ g →
              (a : Bool) →
              same_name t (row_in w i).statement.name (row_in w k).statement.clauses.redefines ≡ a →
              (b : Bool) →
              same_name t (row_in w i).statement.name (row_in w k).statement.name ≡ b →
              RowIs t w k j to last →
              (Findable t w i (suc k) → Onward t w i j to (redefiners_in t w i j to) (next_in w (suc i) j (rows_forest w j to))) →
              (((target : Span) → back t w target (suc k) ≡ suc i → ⊥) → next_in w (suc i) j (rows_forest w j to) ≡ 0) →
              Onward t w i k to (redefiners_in t w i k to) (if x then suc k else next_in w (suc i) j (rows_forest w j to))
          by_row j c true x g p a q b s row rest none =
              record { low = omega arith; high = more; before = last; back = l; opened = o; marks = m; names = eqb-true (row_code (row_in w k).place.base) (suc i) x; same = refl }
          by_row j c false x true p a q b s row rest none =
              let name = (row_in w i).statement.name in
              let r = (row_in w k).statement.clauses.redefines in
              let other : same_name t name r ≡ false =
              swapped t name r ∙ sym (o r) ∙ ap (λ (n : ℕ). eqb n (suc i)) (sym (row.base ∙ ap (λ (y : Bool). if y then back t w r last else 0) p)) ∙ x in
              onward-from t w i to (next_in w (suc i) j (rows_forest w j to)) (omega (arith, c.low)) (redefined-miss t w i k to c p other) (rest (passes t w i k last row.before l o p))
          by_row j c false x false p a q true s row rest none =
              subst (Onward t w i k to (redefiners_in t w i k to)) (sym (none (closes t w i k last row.before l h o p s))) (redefined-ends t w i k to c p s)
          by_row j c false x false p a q false s row rest none =
              onward-from t w i to (next_in w (suc i) j (rows_forest w j to)) (omega (arith, c.low)) (redefined-next t w i k to c p s) (rest (differs t w i k last row.before l h o p s))

-- the redefiners of a base: from row k on, n names the first
pub record Following (t : List ℕ) (w : List Row) (i j to k n : ℕ) : Type 0 where
  pub base : Base t w i j to
  pub low : j ≤ k
  pub rest : Onward t w i k to (redefiners_in t w i k to) n

pub following-starts : {t : List ℕ} {w : List Row} {i j to : ℕ} → Base t w i j to → {n : ℕ} → n ≡ row_code (row_in w i).place.next → Following t w i j to j n
following-starts {t} {w} {i} {j} {to} b e =
    record {
      base = b;
      low = omega arith;
      rest =
          subst (Onward t w i j to (redefiners_in t w i j to)) (sym (e ∙ b.next))
          (onward t w i to (to - j) j (suc i) (omega arith) b.low b.low b.opened b.branch.later);
    }

module _ (t : List ℕ) (w : List Row) (i k to : ℕ) (es : Entries) where
  none_named : (n : ℕ) → n ≤ 0 → Onward t w i k to es n → es ≡ end
  none_named zero h x = x
  none_named (suc row) h x = absurd (omega arith)

  row_named : (n : ℕ) → 0 < n → Onward t w i k to es n → Next t w i k to es (n - 1)
  row_named zero h x = absurd (omega arith)
  row_named (suc row) h x = subst (Next t w i k to es) (let e : row ≡ suc row - 1 = omega arith in e) x

module _ {t : List ℕ} {w : List Row} {i j to k n : ℕ} (inv : Following t w i j to k n) where
  pub following-none : n ≤ 0 → redefiners_in t w i k to ≡ end
  following-none h = none_named t w i k to (redefiners_in t w i k to) n h inv.rest

  pub following-next : 0 < n → Next t w i k to (redefiners_in t w i k to) (n - 1)
  following-next h = row_named t w i k to (redefiners_in t w i k to) n h inv.rest

-- one of them
module _ {t : List ℕ} {w : List Row} {i j to k n : ℕ} (inv : Following t w i j to k n) {row : ℕ} (x : Next t w i k to (redefiners_in t w i k to) row) where
  pub next-numbered : Numbered w row to
  next-numbered = marked-numbered t w row to x.before inv.base.fits x.high x.marks

  module _ {m : ℕ} (h : ChildrenEnd w row to m) where
    row_is : RowIs t w row m to x.before
    row_is = (marked_step w row to m h t x.before x.marks).0

    pub next-sibling : Branch t w row m to × Known t w row (before_in w row)
    next-sibling =
        let later = sized-part inv.base.branch.sized row to (omega (arith, inv.base.low, inv.low, x.low)) (omega arith) in
        (marked-branch t w inv.base.fits x.back later x.marks h, named-known t w inv.base.fits x.back later x.marks h)

    -- it redefines row i
    found : base_after t w row x.before ≡ suc i
    found = sym row_is.base ∙ x.names

    redefines : is_given (row_in w row).statement.clauses.redefines ≡ true
    redefines = go (is_given (row_in w row).statement.clauses.redefines) refl found
      where
        go : (g : Bool) → is_given (row_in w row).statement.clauses.redefines ≡ g → (if g then back t w (row_in w row).statement.clauses.redefines x.before else 0) ≡ suc i → is_given (row_in w row).statement.clauses.redefines ≡ true
        go true p e = p
        go false p e = absurd (omega arith)

    pub next-is : redefiners_in t w i k to ≡ entry (rebased (row_in w i).place.offset (entry_in w row)) (list_in w (suc row) m) (redefiners_in t w i m to)
    next-is =
        let name = (row_in w i).statement.name in
        let r = (row_in w row).statement.clauses.redefines in
        let at : back t w r x.before ≡ suc i = sym (ap (λ (g : Bool). if g then back t w r x.before else 0) redefines) ∙ found in
        x.same ∙ redefined-hit t w i row to h redefines (swapped t name r ∙ sym (x.opened r) ∙ eq-eqb (back t w r x.before) (suc i) at)

    -- and names the next
    pub next-on : {n' : ℕ} → n' ≡ row_code (row_in w row).place.next → Following t w i j to m n'
    next-on e =
        let union : union_of w row ≡ suc i =
        ap (λ (g : Bool). if g then row_code (row_in w row).place.base else suc row) (lt-ltb 0 (row_code (row_in w row).place.base) (omega (arith, x.names))) ∙ x.names in
        let b = inv.base in
        record {
          base = b;
          low = omega (arith, inv.low, x.low, h.low);
          rest =
              subst (Onward t w i m to (redefiners_in t w i m to)) (sym (e ∙ row_is.chain ∙ ap (λ (u : ℕ). next_in w u m (rows_forest w m to)) union))
              (onward t w i to (to - m) m (suc row) (omega arith) (omega (arith, b.low, inv.low, x.low, h.low)) h.low (passes t w i row x.before row_is.before x.back x.opened redefines) (marked_step w row to m h t x.before x.marks).2);
        }
