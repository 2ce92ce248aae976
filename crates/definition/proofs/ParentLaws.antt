-- The open statements give the parents of the forest: one step of closing and of the parents; open statements stay few,
-- and earlier; and the parent that a statement gets from the open ones is the one that it stands under in the forest.
-- Assumes nothing.
use Prim.Native.Nat.{ℕ, suc, ◌+◌, ◌≤◌, ◌<◌}
use mathlib.Core.Path.{◌≡◌, refl, ap}
use mathlib.Core.List.{List, [], ◌∷◌, ◌++◌, append_assoc}
use native.Mathlib.Omega.{arith}
use lib.ListN.{length, length-append}
use borrow.Author.Tests.{lt-ltb, le-ltb}
use Rattle.definition.specs.declared.Statement.{Statement}
use Rattle.definition.specs.Tree.{Forest, item, above, not_above, forest, Open, opened, still_open, innermost}
use Rattle.definition.specs.Tree.{parents, parents_in}

-- ---------------------------------------------------------------- one step

module _ (n : ℕ) where
  pub open_none : still_open n [] ≡ []
  unfolding still_open
  open_none = refl

  module _ (o : Open) (os : List Open) where
    pub open-smaller : o.level < n → still_open n (o ∷ os) ≡ o ∷ os
    unfolding still_open
    open-smaller h = rw (lt-ltb o.level n h, still_open)

    pub open-closed : n ≤ o.level → still_open n (o ∷ os) ≡ still_open n os
    unfolding still_open
    open-closed h = rw (le-ltb o.level n h, still_open)

pub length-parents : (os : List Open) (k : ℕ) (ss : List Statement) → length (parents os k ss) ≡ length ss
unfolding parents
length-parents os k [] = refl
length-parents os k (s ∷ ss) =
    let outer = still_open s.level os in
    ap suc (length-parents (opened s.level (suc k) s.usage ∷ outer) (suc k) ss)

-- ---------------------------------------------------------------- open statements are few, and earlier

-- each open level is at least the number of those around it, and each statement is one of the first k
abbrev pub Fit : ℕ → List Open → Type 0
Fit k [] = Unit {0}
Fit k (o ∷ os) = (length os ≤ o.level) × (0 < o.number) × (o.number ≤ k) × Fit k os

-- those that stay open below a level are no more than it, and fit still
pub open-few : (n k : ℕ) (os : List Open) → Fit k os → length (still_open n os) ≤ n
unfolding still_open
open-few n k [] h = omega arith
open-few n k (o ∷ os) h = grind (arith, open-few n k os)

pub open-fit : (n k : ℕ) (os : List Open) → Fit k os → Fit k (still_open n os)
unfolding still_open
open-fit n k [] h = tt
open-fit n k (o ∷ os) h = grind (arith, open-fit n k os)

-- ---------------------------------------------------------------- the parents of a forest

-- the parents of a forest where these are open: what is above the innermost stands under it, and the others under the
-- outer ones
abbrev under : List Open → ℕ → Forest → List ℕ
under [] k f = parents_in 0 k f
under (o ∷ os) k f =
    let inner = parents_in o.number k (above o.level f) in inner ++ under os (k + length inner) (not_above o.level f)

under-item : (os : List Open) (k : ℕ) (s : Statement) (kids later : Forest) →
    let outer = still_open s.level os in
    let inner = parents_in (suc k) (suc k) kids in
    under os k (item s kids later) ≡ innermost outer ∷ (inner ++ under outer (suc k + length inner) later)
unfolding still_open above not_above parents_in
under-item [] k s kids later = refl
under-item (o ∷ os) k s kids later = grind (arith, under-item os k s kids later, append_assoc, length-append)

parents-under : (os : List Open) (k : ℕ) (ss : List Statement) → parents os k ss ≡ under os k (forest ss)
unfolding parents forest above not_above parents_in
parents-under [] k [] = refl
parents-under (o ∷ os) k [] = grind (arith, parents-under os k [])
parents-under os k (s ∷ ss) =
    let outer = still_open s.level os in
    cc (
      parents-under (opened s.level (suc k) s.usage ∷ outer) (suc k) ss,
      under-item os k s (above s.level (forest ss)) (not_above s.level (forest ss)),
    )

-- the open statements give the parents of the forest
pub parents-forest : (ss : List Statement) → parents [] 0 ss ≡ parents_in 0 0 (forest ss)
parents-forest ss = parents-under [] 0 ss
