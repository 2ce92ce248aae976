-- The walk from row to row finds the owner that the search among the entries finds, where that finds one.
-- Assumes nothing.
use Prim.Native.Nat.{ℕ, suc, ◌+◌, ◌*◌, ◌-◌, ◌/◌, ◌%◌, ◌≤◌, ◌<◌}
use mathlib.Core.Path.{◌≡◌, refl, sym, ◌∙◌, ap}
use mathlib.Core.List.{List, [], ◌∷◌, ◌++◌, append_assoc}
use mathlib.Core.Logic.{⊎_elim}
use native.Mathlib.Omega.{arith}
use lib.ListN.{length, length-append}
use Rattle.std.specs.Prelude.{Some}
use Rattle.definition.specs.declared.Entry.{Entry}
use Rattle.definition.specs.declared.Owner.{Owner}
use Rattle.definition.specs.Fold.{Entries, end, entry, total}
use Rattle.definition.specs.Search.{entries#, start_in, place_in, inside, seek, Row, row_of_entry, rows, walk}
use Rattle.definition.proofs.Lists.{order}
use Rattle.definition.proofs.Seek.{seek-slack, seek-in, seek-later}

-- the cases of one row
module _ (k first : ℕ) (r : Row) (rs : List Row) (q : ℕ) where
  pub walk-slack : q < r.offset → walk 0 k first (r ∷ rs) q ≡ Some (Owner.Slack k)
  unfolding walk
  walk-slack h = grind arith

  module _ (h : r.offset ≤ q) (l : q < r.offset + r.width * r.count) where
    abbrev start : ℕ
    start = first + r.offset + (q - r.offset) / r.width * r.width

    abbrev place : ℕ
    place = (q - r.offset) % r.width

    pub walk-end : r.width ≤ place + r.slack_at_end → walk 0 k first (r ∷ rs) q ≡ Some (Owner.Slack k)
    unfolding walk
    walk-end e = grind arith

    pub walk-piece :
        place + r.slack_at_end < r.width →
        r.below ≡ 0 →
        walk 0 k first (r ∷ rs) q ≡ Some (Owner.Piece k start place)
    unfolding walk
    walk-piece e z = grind arith

    pub walk-in :
        place + r.slack_at_end < r.width →
        0 < r.below →
        walk 0 k first (r ∷ rs) q ≡ walk 0 (suc k) start rs place
    unfolding walk
    walk-in e z = grind arith

  pub walk-later :
      r.offset ≤ q →
      r.offset + r.width * r.count ≤ q →
      walk 0 k first (r ∷ rs) q ≡ walk r.below (suc k) first rs q
  unfolding walk
  walk-later h l = grind arith

-- rows passed over
pub walk-skip :
    (k first : ℕ) (ss rs : List Row) (q : ℕ) →
    walk (length ss) k first (ss ++ rs) q ≡ walk 0 (k + length ss) first rs q
unfolding walk
walk-skip k first [] rs q = grind (arith)
walk-skip k first (s ∷ ss) rs q = grind (arith, walk-skip (suc k) first ss rs q)

pub rows-length : (es : Entries) → length (rows es) ≡ entries# es
unfolding rows
rows-length end = refl
rows-length (entry e members later) =
    omega (arith, length-append (rows members) (rows later), rows-length members, rows-length later)

-- in an occurrence: of an elementary entry, and of a group, whose members come next
in_entry :
    (e : Entry) (members later : Entries) (k first q : ℕ) (rs : List Row) {o : Owner} →
    e.offset ≤ q →
    q < e.offset + total e →
    (seek (suc k) (start_in first e q) members (place_in e q) ≡ Some o →
    walk 0 (suc k) (start_in first e q) (rows members ++ (rows later ++ rs)) (place_in e q) ≡ Some o) →
    inside k (start_in first e q) e (place_in e q) members (seek (suc k) (start_in first e q) members (place_in e q))
    ≡ Some o →
    walk 0 k first (row_of_entry e (entries# members) ∷ (rows members ++ (rows later ++ rs))) q ≡ Some o
unfolding rows seek
in_entry e end later k first q rs g l ih h = grind (arith, walk-end, walk-piece)
in_entry e (entry m ms more) later k first q rs g l ih h =
    ⊎_elim
    (λ (b : place_in e q + e.slack_at_end < e.width). grind (arith, walk-in, ih))
    (λ (b : e.width ≤ place_in e q + e.slack_at_end). grind (arith, walk-end))
    (order (place_in e q + e.slack_at_end) e.width)

-- the owner that the search among the entries finds is what the walk finds, whatever rows stand behind
pub walk-seek :
    (es : Entries) (k first q : ℕ) (rs : List Row) {o : Owner} →
    seek k first es q ≡ Some o →
    walk 0 k first (rows es ++ rs) q ≡ Some o
unfolding rows walk seek
walk-seek end k first q rs {o} h = absurd (cc)
walk-seek (entry e members later) k first q rs {o} h =
    let r = row_of_entry e (entries# members) in
    let behind = rows members ++ (rows later ++ rs) in
    let ih = walk-seek members (suc k) (start_in first e q) (place_in e q) (rows later ++ rs) {o = o} in
    let ihs = walk-seek later (suc k + entries# members) first q rs {o = o} in
    ap (λ (l : List Row). walk 0 k first (r ∷ l) q) (append_assoc (rows members) (rows later) rs)
    ∙ ⊎_elim
    (λ (l : q < e.offset). walk-slack k first r behind q l ∙ sym (seek-slack k first e members later q l) ∙ h)
    (λ (g : e.offset ≤ q).
    ⊎_elim
    (λ (l : q < e.offset + total e).
    in_entry e members later k first q rs g l ih (sym (seek-in k first e members later q g l) ∙ h))
    (λ (l : e.offset + total e ≤ q).
    grind (
      arith,
      h,
      seek-later k first e members later q g l,
      walk-later k first r behind q g l,
      rows-length members,
      walk-skip (suc k) first (rows members) (rows later ++ rs) q,
      ihs,
    ))
    (order q (e.offset + total e)))
    (order q e.offset)
