-- Laws of the extract of a record: what is handed to the search, and each answer.
-- Assumes nothing.
use Rattle.rows.specs.declared.Row.{Row}
use Prim.Native.Nat.{ℕ, ◌+◌, ◌≤◌, ◌<◌}
use mathlib.Core.Path.{◌≡◌, sym, ◌∙◌, ap, subst}
use mathlib.Core.Bool.{Bool, true, false}
use mathlib.Core.List.{List}
use native.Mathlib.Omega.{arith}
use lib.ListN.{length}
use borrow.Author.Tests.{lt-ltb}
use Rattle.definition.specs.declared.Refusal.{Refusal}
use Rattle.definition.specs.declared.TheConstants.{LARGEST, MOST_ITEMS}
use Rattle.definition.specs.Basic.{Err, and_then}
use Rattle.definition.specs.Calls.{extract_of, extract_in}
use Rattle.definition.specs.Extract.{widths}
use Rattle.definition.specs.Fold.{total, folded_all}
use Rattle.definition.specs.Owner.{size, overlaid}
use Rattle.definition.specs.Tree.{root}
use Rattle.layout.specs.Places.{entry_in, rows_forest}
use Rattle.layout.proofs.EntriesLaws.{size-stretch}
use Rattle.layout.specs.Shown.{list_in}
use Rattle.owner.proofs.OwnerLaws.{folded-plain, laid_out}
use Rattle.extract.specs.Sums.{Narrow}
use Rattle.extract.specs.Gathered.{totals, Gatherable, Itemed}
use Rattle.extract.proofs.GatherLaws.{list-widths, widths-length, totals-small}

-- ---------------------------------------------------------------- the answer

-- too many items are refused, whatever the weights are
too_many : (bs ws : List ℕ) (limit budget : ℕ) → MOST_ITEMS < length bs →
    extract_of bs ws limit budget ≡ Err Refusal.WrongItems
unfolding extract_of and_then
too_many bs ws limit budget l = rw (lt-ltb MOST_ITEMS (length bs) l)

module _ {text : List ℕ} {w : List Row} {from to long top : ℕ} (t : Itemed text w from to long top)
    {b : Bool} (p : b ≡ overlaid (rows_forest w from to)) where
  module _ (weights : List ℕ) (limit budget : ℕ) where
    -- 40
    pub answers-40 : b ≡ true → Err Refusal.Overlaid ≡ extract_in weights limit budget text (root (rows_forest w 0 to)) (rows_forest w from to) (list_in w from to)
    unfolding extract_in and_then
    answers-40 e = rw (← p, e)

    -- else the items decide
    of-widths :
        b ≡ false →
        extract_in weights limit budget text (root (rows_forest w 0 to)) (rows_forest w from to) (list_in w from to)
        ≡ extract_of (widths (folded_all text (list_in w from to))) weights limit budget
    unfolding extract_in and_then
    of-widths e = rw (← p, e)

    -- 58 for too many
    pub answers-58 : b ≡ false → MOST_ITEMS < top →
        Err Refusal.WrongItems ≡ extract_in weights limit budget text (root (rows_forest w 0 to)) (rows_forest w from to) (list_in w from to)
    answers-58 e h =
        sym (of-widths e ∙ too_many (widths (folded_all text (list_in w from to))) weights limit budget
        (omega (arith, widths-length (folded_all text (list_in w from to)), t.counted)))

  module _ (e : b ≡ false) where
    -- what is gathered are the items' widths, as many as there are items
    gathered : totals (list_in w from to) ≡ widths (folded_all text (list_in w from to))
    gathered = list-widths w from to (sym p ∙ e) ∙ ap widths (sym (folded-plain text w from to (sym p ∙ e)))

    as_many : length (totals (list_in w from to)) ≡ top
    as_many = ap length gathered ∙ widths-length (folded_all text (list_in w from to)) ∙ sym t.counted

    -- they have a place each
    pub gatherable : (out : List ℕ) → length out ≡ top → Gatherable w from to out
    gatherable out h = record { text = text; tree = t.listed.tree; room = as_many ∙ sym h }

    module _ {bs : List ℕ} (g : bs ≡ totals (list_in w from to)) where
      -- none is too large,
      pub handed-narrow : top ≤ MOST_ITEMS → Narrow bs
      handed-narrow few =
          let f = rows_forest w from to in
          let each : (j : ℕ) → from ≤ j → j < from + size f → total (entry_in w j) ≤ LARGEST =
          λ j l u. t.listed.tree.sized.totals j l (omega (arith, size-stretch w from to)) in
          subst Narrow (sym g) (record { few = omega (arith, as_many); each = totals-small w f from each })

      -- and the search among them gives the extract
      pub answers-chosen :
          (weights : List ℕ) (limit budget : ℕ) →
          extract_of bs weights limit budget ≡ extract_in weights limit budget text (root (rows_forest w 0 to)) (rows_forest w from to) (list_in w from to)
      answers-chosen weights limit budget =
          ap (λ (xs : List ℕ). extract_of xs weights limit budget) (g ∙ gathered)
          ∙ sym (of-widths weights limit budget e)
