-- The owner found among the entries of the listing, with no piece laid, is the owner that the laid pieces have.
-- Assumes nothing.
use Prim.Native.Nat.{ℕ, suc, ◌+◌, ◌*◌, ◌-◌, ◌/◌, ◌%◌, ◌≤◌, ◌<◌}
use mathlib.Core.Path.{◌≡◌, refl, sym, ◌∙◌, ap, ap₂, subst}
use mathlib.Core.List.{List, ◌++◌}
use mathlib.Core.Logic.{⊎_elim}
use native.Mathlib.Omega.{arith}
use native.Mathlib.Nat.{mod-lt, add-zero, sub-zero}
use Rattle.std.specs.Prelude.{Some}
use Rattle.definition.specs.declared.Statement.{Statement}
use Rattle.definition.specs.declared.Entry.{Entry}
use Rattle.definition.specs.declared.Owner.{Owner}
use Rattle.definition.specs.Basic.{fewest}
use Rattle.definition.specs.Tree.{Forest, leaf, item}
use Rattle.definition.specs.Storage.{place_alignment}
use Rattle.definition.specs.Fold.{Entries, entry, times, total}
use Rattle.definition.specs.Owner.{Piece, slack_piece, extent, size}
use Rattle.definition.specs.Owner.{slack_before, laid_item, laid, owner_from}
use Rattle.definition.specs.Placed.{placed}
use Rattle.definition.specs.Search.{entries#, start_in, place_in, inside, seek}
use Rattle.definition.proofs.Lists.{order}
use Rattle.definition.proofs.Pieces.{extent-slack, copies, owner_here, owner-left, owner-right}
use Rattle.definition.proofs.Pieces.{owner-copies, positive}
use Rattle.definition.proofs.Cover.{Plain, list_at, one_at, first_at, entry_here, once-wide, here-wide, first-same}
use Rattle.definition.proofs.Cover.{leaf-padding, leaf-here, item-own, item-total}

-- the three cases of the search
module _ (k first : ℕ) (e : Entry) (members later : Entries) (q : ℕ) where
  pub seek-slack : q < e.offset → seek k first (entry e members later) q ≡ Some (Owner.Slack k)
  unfolding seek
  seek-slack h = grind arith

  pub seek-in :
      e.offset ≤ q →
      q < e.offset + total e →
      seek k first (entry e members later) q
      ≡ inside k (start_in first e q) e (place_in e q) members
      (seek (suc k) (start_in first e q) members (place_in e q))
  unfolding seek
  seek-in h l = grind arith

  pub seek-later :
      e.offset ≤ q →
      e.offset + total e ≤ q →
      seek k first (entry e members later) q ≡ seek (suc k + entries# members) first later q
  unfolding seek
  seek-later h l = grind arith

module _ (text : List ℕ) where
  pub entries-size : (k base place : ℕ) (f : Forest) → entries# (placed text k base place f) ≡ size f
  unfolding placed
  entries-size k base place leaf = refl
  entries-size k base place (item s kids later) =
      let first = base + (place + fewest (place_alignment text s kids) (base + place)) in
      omega (
        arith,
        entries-size (suc k) first 0 kids,
        entries-size (suc k + size kids) base
            (place + extent (laid_item text k (base + place) s kids (list_at text k kids))) later,
      )

  -- every byte of slack answers with the entry
  slack-owner : (k n first q : ℕ) → q < n → owner_from first (slack_piece k n) q ≡ Some (Owner.Slack k)
  slack-owner k n first q h = grind (arith, owner_here)

  -- in one occurrence
  in-once :
      (k base place first r : ℕ) (s : Statement) (kids : Forest) →
      let e = entry_here text k base place s kids in
      let start = base + e.offset in
      let members = placed text (suc k) start 0 kids in
      r < e.width →
      (r < extent (list_at text k kids start) → seek (suc k) first members r ≡ owner_from first
      (list_at text k kids start) r) →
      inside k first e r members (seek (suc k) first members r) ≡ owner_from first (one_at text k s kids start) r
  unfolding placed
  in-once k base place first r s leaf h ih =
      grind (arith, owner_here, leaf-here text k base place s, leaf-padding text s)
  in-once k base place first r s (item t more later) h ih =
      let kids = item t more later in
      let e = entry_here text k base place s kids in
      let list = list_at text k kids (base + e.offset) in
      let n = e.slack_at_end in
      ⊎_elim
      (λ (l : r < extent list). grind (arith, ih l, owner-left (slack_piece k n) first list r l))
      (λ (g : extent list ≤ r).
      grind (
        arith,
        owner-right (slack_piece k n) first list r g,
        slack-owner k n (first + extent list)
            (r - extent list),
      ))
      (order r (extent list))

  -- the byte at place q of a list, of which `place` bytes are passed, and which starts at the byte `first`
  pub seek-owner :
      (f : Forest) (k base place first q : ℕ) →
      Plain f →
      place ≤ q →
      seek k first (placed text k base place f) q ≡ owner_from (first + place) (laid text k (base + place) f)
      (q - place)
  unfolding placed laid seek owner_from
  seek-owner leaf k base place first q p h = refl
  seek-owner (item s kids later) k base place first q p h =
      let at = base + place in
      let e = entry_here text k base place s kids in
      let start = base + e.offset in
      let before = slack_before text k at s kids in
      let one = one_at text k s kids (first_at text s kids at) in
      let n = times s.clauses.occurs in
      let own = laid_item text k at s kids (list_at text k kids) in
      let mine = before ++ copies n one in
      let same : own ≡ mine = item-own text k at s kids p.0 in
      let members = placed text (suc k) start 0 kids in
      let rest = laid text (suc k + size kids) (at + extent own) later in
      let others = placed text (suc k + size kids) base (place + extent own) later in
      let same-one : one_at text k s kids start ≡ one = ap (one_at text k s kids) (first-same text base place s kids) in
      let w-once : e.width ≡ extent one =
      here-wide text k base place s kids ∙ sym (once-wide text k (first_at text s kids at) s kids) in
      let F = extent-slack k e.slack in
      let all_own : e.offset + total e ≡ place + extent own = item-total text k base place s kids p.0 in
      ⊎_elim
      (λ (l : q < e.offset).
      seek-slack k first e members others q l
      ∙ sym (slack-owner k e.slack (first + place) (q - place) (omega arith))
      ∙ sym (owner-left (copies n one) (first + place) before (q - place) (omega arith))
      ∙ ap (λ (x : List Piece). owner_from (first + place) x (q - place)) (sym same)
      ∙ sym (owner-left rest (first + place) own (q - place) (omega arith)))
      (λ (g : e.offset ≤ q).
      ⊎_elim
      (λ (l : q < e.offset + total e).
      let r = q - e.offset in
      let W = e.width in
      let pos = positive W n r (omega arith) in
      let from = first + e.offset + r / W * W in
      let place' = r % W in
      let ih = λ (l : place' < extent (list_at text k kids start)).
      let here : from + 0 ≡ from = add-zero from in
      let there : start + 0 ≡ start = add-zero start in
      let byte : place' - 0 ≡ place' = sub-zero place' in
      seek-owner kids (suc k) start 0 from place' p.1 (omega arith)
      ∙ (λ i. owner_from (here i) (laid text (suc k) (there i) kids) (byte i)) in
      seek-in k first e members others q g l
      ∙ in-once k base place from place' s kids (mod-lt r pos) ih
      ∙ ap (λ (x : List Piece). owner_from from x place') same-one
      ∙ ap (λ (x : ℕ). owner_from (first + e.offset + r / x * x) one (r % x)) w-once
      ∙ sym (owner-copies (first + e.offset) n one r (subst (λ (x : ℕ). r < x * n) w-once (omega arith)))
      ∙ ap₂ (λ (x y : ℕ). owner_from x (copies n one) y) (omega arith) (omega arith)
      ∙ sym (owner-right (copies n one) (first + place) before (q - place) (omega arith))
      ∙ ap (λ (x : List Piece). owner_from (first + place) x (q - place)) (sym same)
      ∙ sym (owner-left rest (first + place) own (q - place) (omega arith)))
      (λ (l : e.offset + total e ≤ q).
      seek-later k first e members others q g l
      ∙ ap (λ (x : ℕ). seek (suc k + x) first others q) (entries-size (suc k) start 0 kids)
      ∙ seek-owner later (suc k + size kids) base (place + extent own) first q p.2 (omega arith)
      ∙ ap₂ (λ (x y : ℕ). owner_from (first + (place + extent own)) (laid text (suc k + size kids) x later) y)
      (omega arith) (omega arith)
      ∙ ap (λ (x : ℕ). owner_from x rest (q - place - extent own)) (omega arith)
      ∙ sym (owner-right rest (first + place) own (q - place) (omega arith)))
      (order q (e.offset + total e)))
      (order q e.offset)
