-- Laws of the forest: one step of each definition; and a list of statements, or an index range of it, splits into a
-- statement, its children and the rest.
-- Assumes nothing.
use Prim.Native.Nat.{ℕ, suc, ◌+◌, ◌≤◌, ◌<◌}
use mathlib.Core.Path.{◌≡◌, refl, ◌∙◌, ap, ap₂}
use mathlib.Core.List.{List, [], ◌∷◌}
use native.Mathlib.Omega.{arith}
use lib.ListN.{length, get_or, take, drop}
use lib.Seq.{slice, slice-cons, take-take, drop-drop, length-slice}
use borrow.Author.Tests.{lt-ltb, le-ltb}
use Rattle.definition.specs.declared.Statement.{Statement}
use Rattle.definition.specs.Tree.{Forest, leaf, item, above, not_above, forest, higher}
use Rattle.definition.proofs.Lists.{take-drop}

-- ---------------------------------------------------------------- one step

module _ (n : ℕ) where
  pub higher-none : higher n [] ≡ 0
  unfolding higher
  higher-none = refl

  module _ (s : Statement) (ss : List Statement) where
    pub higher-hit : n < s.level → higher n (s ∷ ss) ≡ suc (higher n ss)
    unfolding higher
    higher-hit h = rw (lt-ltb n s.level h, higher)

    pub higher-miss : s.level ≤ n → higher n (s ∷ ss) ≡ 0
    unfolding higher
    higher-miss h = rw (le-ltb n s.level h, higher)

  pub higher-length : (ss : List Statement) → higher n ss ≤ length ss
  unfolding higher
  higher-length [] = omega arith
  higher-length (s ∷ ss) = grind (arith, higher-length ss)

-- ---------------------------------------------------------------- two levels

module _ (n m : ℕ) (h : n ≤ m) where
  -- what is above m stands among what is above a smaller n
  above-above : (f : Forest) → above m (above n f) ≡ above m f
  unfolding above
  above-above leaf = refl
  above-above (item s kids later) = grind (arith, above-above later)

  -- to leave out what is above m, and then to take what is above n, is the other way round the same
  above-not_above : (f : Forest) → not_above m (above n f) ≡ above n (not_above m f)
  unfolding above not_above
  above-not_above leaf = refl
  above-not_above (item s kids later) = grind (arith, above-not_above later)

  not_above-not_above : (f : Forest) → not_above n (not_above m f) ≡ not_above n f
  unfolding not_above
  not_above-not_above leaf = refl
  not_above-not_above (item s kids later) = grind (arith, not_above-not_above later)

-- ---------------------------------------------------------------- a statement, its children and the rest

-- the trees above n are those of the first statements above n, and the other trees those of the other statements
above-forest : (n : ℕ) (ss : List Statement) → above n (forest ss) ≡ forest (take (higher n ss) ss)
unfolding above forest higher
above-forest n [] = refl
above-forest n (s ∷ ss) =
    grind (arith, above-forest n ss, above-above n s.level, above-not_above n s.level)

not_above-forest : (n : ℕ) (ss : List Statement) → not_above n (forest ss) ≡ forest (drop (higher n ss) ss)
unfolding not_above forest higher
not_above-forest n [] = refl
not_above-forest n (s ∷ ss) = grind (arith, not_above-not_above n s.level, not_above-forest n ss)

pub forest-none : forest [] ≡ leaf
unfolding forest
forest-none = refl

-- the forest of a list: its first statement, with the run of higher levels as children, and the rest
pub forest-cons :
    (s : Statement) (ss : List Statement) →
    forest (s ∷ ss) ≡ item s (forest (take (higher s.level ss) ss)) (forest (drop (higher s.level ss) ss))
unfolding forest
forest-cons s ss = cc (above-forest s.level ss, not_above-forest s.level ss)

-- the forest of the statements from index i up to, not including, j: the statement i, its children up to the index e,
-- and the rest
module _ (ss : List Statement) (d : Statement) (i j : ℕ) (h : i < j) (fits : j ≤ length ss) where
  abbrev pub children_end : ℕ
  children_end = suc i + higher (get_or ss i d).level (slice (suc i) j ss)

  pub children_end-within : children_end ≤ j
  children_end-within =
      omega (arith, higher-length (get_or ss i d).level (slice (suc i) j ss), length-slice (suc i) j ss fits)

  pub forest-slice :
      forest (slice i j ss) ≡ item (get_or ss i d) (forest (slice (suc i) children_end ss)) (forest (slice children_end j ss))
  forest-slice =
      let s = get_or ss i d in
      let rest = slice (suc i) j ss in
      let n = higher s.level rest in
      let first : take n rest ≡ slice (suc i) children_end ss =
      take-drop n (suc i) (take j ss) ∙ ap (drop (suc i)) (take-take children_end j ss children_end-within) in
      let others : drop n rest ≡ slice children_end j ss = drop-drop n (suc i) (take j ss) in
      ap forest (slice-cons i j ss d h fits)
      ∙ forest-cons s rest
      ∙ ap₂ (λ (a b : List Statement). item s (forest a) (forest b)) first others

-- ---------------------------------------------------------------- the fields of the record
