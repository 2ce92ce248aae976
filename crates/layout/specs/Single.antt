-- What a struct holds of the rows is so in one way at most.
-- Assumes nothing.
use Rattle.rows.specs.declared.Row.{Row}
use Rattle.std.specs.Prelude.{ℕ, suc, ◌+◌, List, refl}
use Rattle.std.proofs.Props.{props}
use Rattle.definition.specs.Tree.{Forest, leaf, item}
use Rattle.definition.specs.Owner.{size}
use Rattle.layout.specs.Shown.{RowMarked, Marked, Tree, Branch}

Marked-prop : (t : List ℕ) (w : List Row) (k last : ℕ) (f : Forest) → IsProp (Marked t w k last f)
Marked-prop t w k last leaf = λ x y. refl
Marked-prop t w k last (item s kids later) =
    let own : IsProp (RowMarked t w k last kids later) = hlevel props in
    let below = Marked-prop t w (suc k) 0 kids in
    let rest = Marked-prop t w (suc k + size kids) (suc k) later in
    λ x y i. (own x.0 y.0 i, below x.1 y.1 i, rest x.2 y.2 i)

pub Tree-prop : {t : List ℕ} {w : List Row} {from to : ℕ} → IsProp (Tree t w from to)
Tree-prop = hlevel (props, Marked-prop)

pub Branch-prop : {t : List ℕ} {w : List Row} {i j to : ℕ} → IsProp (Branch t w i j to)
Branch-prop = hlevel (props, Marked-prop)
