-- Laws of the items' bytes: one law for each way through the loop that gathers them; they are the reserved widths, as
-- many as the record has items, and none is too large.
-- Assumes nothing.
use Rattle.rows.specs.declared.Row.{Row}
use Prim.Native.Nat.{ℕ, zero, suc, ◌+◌, ◌-◌, ◌≤◌, ◌<◌}
use mathlib.Core.Path.{◌≡◌, refl, sym, ◌∙◌, ap, ap₂}
use mathlib.Core.Bool.{false}
use mathlib.Core.List.{List, [], ◌∷◌, ◌++◌, append_assoc, append-nil}
use native.Mathlib.Numerals.{add-one}
use native.Mathlib.Omega.{arith}
use lib.ListN.{length, get_or, set, length-set, take}
use Rattle.std.proofs.Math.Seq.{take-suc-set}
use Rattle.std.proofs.lemmas.List.{take_all}
use Rattle.definition.specs.declared.Statement.{Statement}
use Rattle.definition.specs.declared.TheConstants.{LARGEST}
use Rattle.std.specs.Prelude.{if◌then◌else◌}
use Rattle.definition.specs.Basic.{is_given}
use Rattle.definition.specs.Extract.{widths}
use Rattle.definition.specs.Fold.{Entries, end, entry, total}
use Rattle.definition.specs.Listing.{members#}
use Rattle.definition.specs.Owner.{size, overlaid}
use Rattle.definition.specs.Tree.{Forest, leaf, item}
use Rattle.definition.proofs.Cover.{Plain, plain}
use Rattle.layout.specs.Children.{ChildrenEnd, ListCounted}
use Rattle.layout.specs.Places.{entry_in, entries_in, rows_forest}
use Rattle.layout.proofs.EntriesLaws.{Rows, rows-forest, linked-counted}
use Rattle.layout.specs.Shown.{list_in, Marked, Tree, SizedRow, Measured}
use Rattle.layout.proofs.ShownLaws.{list-none, list-split, marked_step, marked-linked}
use Rattle.extract.specs.Gathered.{totals, Gatherable}

-- ---------------------------------------------------------------- the loop

-- the bytes of the first i items are gathered, and those from row k on are the others
pub record Gathering (w : List Row) (from to : ℕ) (out : List ℕ) (k i : ℕ) : Type 0 where
  pub text : List ℕ
  pub tree : Tree text w from to
  pub last : ℕ
  pub low : from ≤ k
  pub few : i + (to - k) ≤ to
  pub marks : Marked text w k last (rows_forest w k to)
  pub room : i + length (totals (list_in w k to)) ≡ length out
  pub same : totals (list_in w from to) ≡ take i out ++ totals (list_in w k to)

-- each of the rows counts the rows below it
pub gather-counted : {w : List Row} {from to : ℕ} {out : List ℕ} → Gatherable w from to out → ListCounted w from to
gather-counted {w} {from} {to} g =
    let f = rows_forest w from to in
    linked-counted g.text w f from 0 (marked-linked g.text w f from 0 g.tree.marks)

module _ {w : List Row} {from to : ℕ} {out : List ℕ} {k i : ℕ} (g : Gathering w from to out k i) where
  -- all items are passed
  pub gathering-ends : to ≤ k → out ≡ totals (list_in w from to)
  unfolding totals
  gathering-ends h =
      let none : totals (list_in w k to) ≡ [] = ap totals (list-none w k to h) in
      sym (g.same ∙ ap₂ (λ (a b : List ℕ). a ++ b) (take_all i out (omega (arith, g.room, ap length none))) none ∙ append-nil out)

  module _ (h : k < to) where
    -- the next row is there
    pub gather-row : (k < to) × SizedRow w k
    gather-row = (
      h,
      record {
        fits = omega (arith, g.tree.fits);
        small = g.tree.sized.totals k g.low h;
      },
    )

    module _ {j : ℕ} (c : ChildrenEnd w k to j) where
      -- it has the first of what is left
      first-is : totals (list_in w k to) ≡ total (entry_in w k) ∷ totals (list_in w j to)
      unfolding totals
      first-is = ap totals (list-split w k to j c)

      pub gather-inside : i < length out
      gather-inside = omega (arith, g.room, ap length first-is)

      pub gathering-goes-on : {t : ℕ} → Measured (total (entry_in w k)) t → Gathering w from to (set out i t) j (i + 1)
      gathering-goes-on {t} m =
          record {
            text = g.text;
            tree = g.tree;
            last = suc k;
            low = omega (arith, g.low, c.low);
            few = omega (arith, g.few, c.low, c.high);
            marks = (marked_step w k to j c g.text g.last g.marks).2;
            room = omega (arith, g.room, ap length first-is, length-set out i t);
            same =
                g.same
                ∙ ap (λ (l : List ℕ). take i out ++ l) (first-is
                ∙ ap (λ (n : ℕ). n ∷ totals (list_in w j to)) (sym m.is))
                ∙ sym (rw (add-one i) (ap (λ (l : List ℕ). l ++ totals (list_in w j to)) (take-suc-set out i t gather-inside)
                ∙ append_assoc (take i out) (t ∷ []) (totals (list_in w j to))));
          }

-- ---------------------------------------------------------------- reserved widths

-- without DEPENDING ON all bytes are reserved
plain-widths :
    (w : List Row) (f : Forest) (k : ℕ) → Plain f → Rows w k f → totals (entries_in w k f) ≡ widths (entries_in w k f)
unfolding entries_in totals
plain-widths w leaf k p r = refl
plain-widths w (item s kids later) k p r =
    let free : is_given (entry_in w k).depending ≡ false =
    ap (λ (x : Statement). is_given x.clauses.depending) r.0 ∙ p.0.depending in
    let own : total (entry_in w k) ≡ (if is_given (entry_in w k).depending then 0 else total (entry_in w k)) = rw free in
    let rest = plain-widths w later (suc k + size kids) p.2 r.2 in
    λ i. own i ∷ rest i

pub list-widths :
    (w : List Row) (from to : ℕ) →
    overlaid (rows_forest w from to) ≡ false →
    totals (list_in w from to) ≡ widths (list_in w from to)
list-widths w from to free =
    plain-widths w (rows_forest w from to) from (plain (rows_forest w from to) free) (rows-forest w from (to - from))

-- as many as there are items
pub widths-length : (es : Entries) → length (widths es) ≡ members# es
widths-length end = refl
widths-length (entry e members later) = ap suc (widths-length later)

-- none is too large
pub totals-small :
    (w : List Row) (f : Forest) (k : ℕ) →
    ((j : ℕ) → k ≤ j → j < k + size f → total (entry_in w j) ≤ LARGEST) →
    (i : ℕ) → i < length (totals (entries_in w k f)) → get_or (totals (entries_in w k f)) i 0 ≤ LARGEST
unfolding entries_in totals
totals-small w leaf k each i h = absurd (omega arith)
totals-small w (item s kids later) k each zero h = each k (omega arith) (omega arith)
totals-small w (item s kids later) k each (suc i) h =
    totals-small w later (suc k + size kids) (λ j l u. each j (omega arith) (omega arith)) i (omega arith)
