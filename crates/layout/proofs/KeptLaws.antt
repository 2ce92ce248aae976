-- Rows that are as they were but for the next rows of their unions hold what they held; a table that was laid, before and after its
-- unions are linked.
-- Assumes nothing.
use Prim.Native.Nat.{ℕ, suc, ◌+◌, ◌-◌, ◌≤◌, ◌<◌}
use mathlib.Core.Path.{◌≡◌, refl, sym, ap, subst, ◌∙◌}
use mathlib.Core.List.{List}
use native.Mathlib.Omega.{arith}
use lib.Dec.{ltb}
use lib.ListN.{length, length-set}
use lib.Seq.{get_or-set_other, get_or-set_same}
use Rattle.definition.specs.declared.Entry.{Entry}
use Rattle.definition.specs.declared.TheConstants.{MOST_STATEMENTS, LARGEST}
use Rattle.std.specs.Prelude.{if◌then◌else◌, Option}
use Rattle.definition.specs.Tree.{forest}
use Rattle.definition.specs.Fold.{total}
use Rattle.definition.specs.Owner.{size}
use Rattle.rows.specs.declared.Row.{Row}
use Rattle.rows.specs.Rows.{row_code, row_in}
use Rattle.rows.proofs.RowLaws.{set_keeps, statements-same}
use Rattle.layout.specs.Places.{Linked, entry_at, named, unnamed, entries_in, rows_forest}
use Rattle.layout.proofs.SearchLaws.{found_none}
use Rattle.layout.proofs.EntriesLaws.{size-stretch, entries-same, linked-same}
use Rattle.layout.specs.Marks.{set_next, first_from, RowsKept, Unlinked, UnionsLinked}
use Rattle.layout.specs.Shown.{union_of, list_in, Sized, Tree}
use Rattle.layout.proofs.MarkLaws.{first-same, bases-all, marked_all}

module _ {w w' : List Row} (h : RowsKept w w') where
  pub forest-kept : (a b : ℕ) → rows_forest w a b ≡ rows_forest w' a b
  forest-kept a b = ap forest (statements-same w w' (λ k. sym (ap (λ (r : Row). r.statement) (h.same k))) a (b - a))

  pub list-kept : (a b : ℕ) → list_in w a b ≡ list_in w' a b
  list-kept a b = entries-same w w' a (rows_forest w a b) (λ j p m. sym (ap entry_at (h.same j))) ∙ ap (entries_in w' a) (forest-kept a b)

  linked-kept : (t : List ℕ) (a b : ℕ) → Linked t w a 0 (rows_forest w a b) → Linked t w' a 0 (rows_forest w' a b)
  linked-kept t a b x =
      subst (Linked t w' a 0) (forest-kept a b)
      (linked-same t w w' (rows_forest w a b) a 0 (omega arith) (λ j p q. sym (h.same j)) refl (λ bases target. found_none t w target bases ∙ sym (found_none t w' target bases)) x)

  sized-kept : (a b : ℕ) → Sized w a b → Sized w' a b
  sized-kept a b s =
      record { totals = λ k l u. subst (λ (e : Entry). total e ≤ LARGEST) (sym (ap entry_at (h.same k))) (s.totals k l u) }

pub kept_self : (w : List Row) → RowsKept w w
kept_self w = record { long = refl; same = λ k. refl }

pub kept_on : {w w' w'' : List Row} → RowsKept w w' → RowsKept w' w'' → RowsKept w w''
kept_on a b = record { long = b.long ∙ a.long; same = λ k. b.same k ∙ a.same k }

-- ---------------------------------------------------------------- a next row stored

module _ (w : List Row) (a : ℕ) (v : Option ℕ) where
  pub kept_set : RowsKept w (set_next w a v)
  kept_set = record { long = length-set w a (named (row_in w a) v); same = λ k. set_keeps unnamed w a k refl }

  pub set_other : (i : ℕ) → (i ≡ a → ⊥) → row_code (row_in (set_next w a v) i).place.next ≡ row_code (row_in w i).place.next
  set_other i h = ap (λ (r : Row). row_code r.place.next) (get_or-set_other w a i (named (row_in w a) v) _ h)

  pub set_own : a < length w → row_code (row_in (set_next w a v) a).place.next ≡ row_code v
  set_own h = ap (λ (r : Row). row_code r.place.next) (get_or-set_same w a (named (row_in w a) v) _ h)

-- ---------------------------------------------------------------- a table that was laid

-- every row is linked, names no next row of its union, and none is too large
pub record Ready (text : List ℕ) (w : List Row) (a b : ℕ) : Type 0 where
  pub fits : b ≤ length w
  pub linked : Linked text w a 0 (rows_forest w a b)
  pub nexts : (k : ℕ) → a ≤ k → k < b → row_code (row_in w k).place.next ≡ 0
  pub sized : Sized w a b

module _ (text : List ℕ) {w : List Row} (a b : ℕ) (low : a ≤ b) (r : Ready text w a b) where
  many : (x : List Row) → a + size (rows_forest x a b) ≡ b
  many x = omega (arith, size-stretch x a b)

  pub unlinked : b ≤ MOST_STATEMENTS → Unlinked w a b
  unlinked few =
      let bases = bases-all text w (rows_forest w a b) a b r.linked (many w) in
      record { fits = r.fits; few = few; nexts = r.nexts; back = λ i l u. (bases i l u).0; bases = λ i l u. (bases i l u).1 }

  -- each row names the next of its union then
  pub marked-tree : {w' : List Row} → UnionsLinked w a b w' → Tree text w' a b
  marked-tree {w'} n =
      let same : (i : ℕ) → row_code (row_in w i).place.base ≡ row_code (row_in w' i).place.base = λ i. sym (ap (λ (r : Row). row_code r.place.base) (n.kept.same i)) in
      record {
        fits = omega (arith, r.fits, n.kept.long);
        marks =
            marked_all text w' (rows_forest w' a b) a b (linked-kept n.kept text a b r.linked) (many w')
            (λ i l u.
            n.nexts i l u
            ∙ ap (λ (x : ℕ). first_from w (if ltb 0 x then x else suc i) (suc i) (b - suc i)) (same i)
            ∙ first-same w w' same (union_of w' i) (suc i) (b - suc i));
        sized = sized-kept n.kept a b r.sized;
      }
