-- The kept statements as a forest, by their levels: `build_tree` of the Rust. A statement's parent is the nearest
-- earlier open one with a smaller level, so its children are the first following statements of higher levels, up to the
-- first of no higher level. Departure from COBOL: siblings may have different levels, and a level may be any number
-- below 256.
-- Assumes nothing.
use Rattle.std.specs.Prelude.{ℕ, suc, ◌+◌, List, [], ◌∷◌, ◌++◌, ltb, length, if◌then◌else◌, Option, None, Some}
use Rattle.definition.specs.declared.NamedUsage.{NamedUsage}
use Rattle.definition.specs.declared.Statement.{Statement}

-- a list of siblings: nothing, or a statement with the list of its children and the list of its later siblings
pub data Forest : Type 0 where
  leaf : Forest
  item : Statement → Forest → Forest → Forest

-- the first trees whose roots have a level above n
unfoldable pub above : ℕ → Forest → Forest
above n leaf = leaf
above n (item s kids later) = if ltb n s.level then item s kids (above n later) else leaf

-- the trees after these
unfoldable pub not_above : ℕ → Forest → Forest
not_above n leaf = leaf
not_above n (item s kids later) = if ltb n s.level then not_above n later else item s kids later

-- a statement before a forest takes the first trees of higher levels as its children
abbrev pub adopt : Statement → Forest → Forest
adopt s f = item s (above s.level f) (not_above s.level f)

unfoldable pub forest : List Statement → Forest
forest [] = leaf
forest (s ∷ ss) = adopt s (forest ss)

-- how many of the first statements have a level above n: those below a statement of level n
unfoldable pub higher : ℕ → List Statement → ℕ
higher n [] = 0
higher n (s ∷ ss) = if ltb n s.level then suc (higher n ss) else 0

-- a statement that is open: its level, its number in copybook order and 1, and the usage that holds for it
pub record Open : Type 0 where
  pub level : ℕ
  pub number : ℕ
  pub usage : Option NamedUsage

abbrev pub opened : ℕ → ℕ → Option NamedUsage → Open
opened level number usage = record { level = level; number = number; usage = usage }

-- the open statements whose level is smaller than n, the innermost first
unfoldable pub still_open : ℕ → List Open → List Open
still_open n [] = []
still_open n (o ∷ os) = if ltb o.level n then o ∷ os else still_open n os

abbrev pub innermost : List Open → ℕ
innermost [] = 0
innermost (o ∷ os) = o.number

-- the parent of each statement, its number and 1, or 0 for none, from statement k on, where these are open before it:
-- the nearest earlier open one with a smaller level. Each closes those that are not smaller, and opens itself
unfoldable pub parents : List Open → ℕ → List Statement → List ℕ
parents os k [] = []
parents os k (s ∷ ss) =
    let outer = still_open s.level os in
    innermost outer ∷ parents (opened s.level (suc k) s.usage ∷ outer) (suc k) ss

-- the parent of each statement of a forest, in copybook order from statement k on, where p is that of the first list
-- (`ParentLaws`, of the proofs, says that the open statements give the same)
unfoldable pub parents_in : ℕ → ℕ → Forest → List ℕ
parents_in p k leaf = []
parents_in p k (item s kids later) =
    let inner = parents_in (suc k) (suc k) kids in p ∷ (inner ++ parents_in p (suc k + length inner) later)

-- the fields of the record: if the only root has children, it is dropped with its clauses
unfoldable pub fields : Forest → Forest
fields leaf = leaf
fields (item s leaf leaf) = item s leaf leaf
fields (item s (item t kids later) leaf) = item t kids later
fields (item s kids (item t kids' later)) = item s kids (item t kids' later)

-- the root that is dropped
abbrev pub root : Forest → Option Statement
root leaf = None
root (item s leaf leaf) = None
root (item s (item t kids later) leaf) = Some s
root (item s kids (item t kids' later)) = None
