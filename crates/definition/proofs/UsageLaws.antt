-- The open statements give the usages of the forest: the forest of statements that take theirs from the nearest open
-- one is the forest in which each group hands its own down.
-- Assumes nothing.
use Prim.Native.Nat.{ℕ, suc}
use mathlib.Core.Path.{◌≡◌, refl, ap, ◌∙◌}
use mathlib.Core.List.{List, [], ◌∷◌}
use native.Mathlib.Omega.{arith}
use lib.ListN.{length}
use Rattle.definition.specs.declared.Statement.{Statement}
use Rattle.definition.specs.Tree.{Forest, leaf, item, above, not_above, forest, Open, opened, still_open}
use Rattle.definition.specs.Usages.{inheriting, inherit, inherited, around, inherit_along}

pub length-along : (os : List Open) (k : ℕ) (ss : List Statement) → length (inherit_along os k ss) ≡ length ss
unfolding inherit_along
length-along os k [] = refl
length-along os k (s ∷ ss) =
    let outer = still_open s.level os in
    let t = inheriting (around outer) s in
    ap suc (length-along (opened t.level (suc k) t.usage ∷ outer) (suc k) ss)

-- a list of siblings where these are open: each closes those that are not smaller
abbrev under : List Open → Forest → Forest
under os leaf = leaf
under os (item s kids later) =
    let outer = still_open s.level os in
    let t = inheriting (around outer) s in
    item t (inherit t.usage kids) (under outer later)

under_none : (f : Forest) → under [] f ≡ inherited f
unfolding still_open inherit
under_none leaf = refl
under_none (item s kids later) = cc (under_none later)

-- what is above the innermost open one stands under it, and the others under those around it
module _ (o : Open) (os : List Open) where
  under-above : (f : Forest) → above o.level (under (o ∷ os) f) ≡ inherit o.usage (above o.level f)
  unfolding still_open above inherit
  under-above leaf = refl
  under-above (item s kids later) = grind (arith, under-above later)

  under-not_above : (f : Forest) → not_above o.level (under (o ∷ os) f) ≡ under os (not_above o.level f)
  unfolding still_open not_above
  under-not_above leaf = refl
  under-not_above (item s kids later) = grind (arith, under-not_above later)

along_under : (ss : List Statement) (os : List Open) (k : ℕ) → forest (inherit_along os k ss) ≡ under os (forest ss)
unfolding inherit_along forest
along_under [] os k = refl
along_under (s ∷ ss) os k =
    let outer = still_open s.level os in
    let t = inheriting (around outer) s in
    let o = opened t.level (suc k) t.usage in
    cc (along_under ss (o ∷ outer) (suc k), under-above o outer (forest ss), under-not_above o outer (forest ss))

-- the open statements give the usages of the forest
pub along-forest : (ss : List Statement) → forest (inherit_along [] 0 ss) ≡ inherited (forest ss)
along-forest ss = along_under ss [] 0 ∙ under_none (forest ss)
