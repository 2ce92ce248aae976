-- The usage that holds for each statement: its own, else that of the nearest group above it that names one, a root that
-- is dropped included; DISPLAY where none does. This is the stage between the tree and the layout: all that comes after
-- reads the usage that holds.
-- Departures from COBOL: a member may name another usage than its group; a group with a usage may have members of text.
-- Under COMP-1 or COMP-2 a member is a float, and has no picture.
-- Assumes nothing.
use Rattle.std.specs.Prelude.{ℕ, suc, List, [], ◌∷◌, Option, None}
use Rattle.definition.specs.declared.NamedUsage.{NamedUsage}
use Rattle.definition.specs.declared.Statement.{Statement}
use Rattle.definition.specs.Statement.{held}
use Rattle.definition.specs.Tree.{Forest, leaf, item, forest, Open, opened, still_open, fields}

-- a statement with the usage that holds for it, where `outer` holds around it
abbrev pub inheriting : Option NamedUsage → Statement → Statement
inheriting outer s =
    record { level = s.level; at = s.at; name = s.name; clauses = s.clauses; usage = held outer s.clauses.usage }

-- a list of siblings, where `outer` holds around it: what holds for a group holds around its members, and not around
-- its later siblings
unfoldable pub inherit : Option NamedUsage → Forest → Forest
inherit outer leaf = leaf
inherit outer (item s kids later) =
    let t = inheriting outer s in item t (inherit t.usage kids) (inherit outer later)

-- the top list, around which none is named
abbrev pub inherited : Forest → Forest
inherited f = inherit None f

-- the fields of the record that kept statements make; a dropped root's usage holds around them
abbrev pub record_of : List Statement → Forest
record_of ss = fields (inherited (forest ss))

-- the usage that holds around a statement where these are open
abbrev pub around : List Open → Option NamedUsage
around [] = None
around (o ∷ os) = o.usage

-- the same in copybook order, from statement k on, where these are open before it: each takes from the nearest open one
-- of a smaller level (`UsageLaws`, of the proofs, says that the forest of these is that of `inherit`)
unfoldable pub inherit_along : List Open → ℕ → List Statement → List Statement
inherit_along os k [] = []
inherit_along os k (s ∷ ss) =
    let outer = still_open s.level os in
    let t = inheriting (around outer) s in
    t ∷ inherit_along (opened t.level (suc k) t.usage ∷ outer) (suc k) ss
