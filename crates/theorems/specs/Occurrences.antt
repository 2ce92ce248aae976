-- What `Demand` comes to, occurrence by occurrence: which occurrences the entries say that there are, where slack may
-- stand, and how many pieces an entry has.
-- Assumes nothing.
use Rattle.std.specs.Prelude.{ℕ, suc, ◌+◌, ◌*◌, ◌≤◌, ◌<◌, ◌≡◌, true, false, List, [], ◌∷◌, ◌⊎◌, eqb, if◌then◌else◌}
use Rattle.definition.specs.declared.Statement.{Statement}
use Rattle.definition.specs.declared.Entry.{Entry}
use Rattle.definition.specs.Basic.{is_given}
use Rattle.definition.specs.Tree.{Forest, leaf, item}
use Rattle.definition.specs.Storage.{storage, is_aligned, alignment, repeats}
use Rattle.definition.specs.Fold.{Entries, end, entry, times}
use Rattle.definition.specs.Layout.{entry_of}
use Rattle.definition.specs.Owner.{Holder, occurrence, slack}
use Rattle.definition.specs.Search.{entries#}
use Rattle.definition.specs.Record.{record_length}
use Rattle.definition.specs.Demand.{Fewest, Tells, Spot, spot}

-- an occurrence of the elementary entry of number n, so many bytes wide, starts at the byte `first`: by the entries'
-- offsets, widths and counts. The first entry of the list has number k, and the list starts at the byte `base`
abbrev pub Within : ℕ → ℕ → Entries → ℕ → Spot → Type 0 → Type 0
Within k width end start y inner = y ≡ spot (occurrence k) start width
Within k width (entry e members later) start y inner = inner

unfoldable pub Occurs : ℕ → ℕ → Entries → Spot → Type 0
Occurs k base end y = ⊥
Occurs k base (entry e members later) y =
    ((i : ℕ)
    × (i < times e.occurs)
    × Within k e.width members (base + e.offset + i * e.width) y
    (Occurs (suc k) (base + e.offset + i * e.width) members y))
    ⊎ Occurs (suc k + entries# members) base later y

-- an item of a list, at any depth, is aligned, and is so wide
abbrev pub AlignedTo : List ℕ → ℕ → Forest → Type 0
AlignedTo text m leaf = ⊥
AlignedTo text m (item s kids later) =
    ((is_aligned text s kids ≡ true) × ((storage text s).width ≡ m)) ⊎ AlignedTo text m kids ⊎ AlignedTo text m later

-- m is the largest alignment in a list
pub record Largest (text : List ℕ) (m : ℕ) (f : Forest) : Type 0 where
  pub one : AlignedTo text m f
  pub most : (w : ℕ) → AlignedTo text w f → w ≤ m

-- an item of the record, at any depth: its statement, and the statements below it
abbrev pub ItemOf : Forest → Statement → Forest → Type 0
ItemOf leaf t below = ⊥
ItemOf (item s kids later) t below = ((t ≡ s) × (below ≡ kids)) ⊎ ItemOf kids t below ⊎ ItemOf later t below

-- slack stands directly before the place of an aligned item of the record, and is the fewest bytes that bring its place
-- in the record to a multiple of its width: the list starts at the byte `base`, and its earlier items end `reached`
-- bytes after that
pub record Slackened (text : List ℕ) (f : Forest) (first width : ℕ) : Type 0 where
  pub statement : Statement
  pub of : ItemOf f statement leaf
  pub slackened : Entry
  pub base : ℕ
  pub reached : ℕ
  pub is_one : is_aligned text statement leaf ≡ true
  pub told-so : slackened ≡ entry_of statement (storage text statement) slackened.offset width 0 0
  pub from : first ≡ base + reached
  pub up_to : first + width ≡ base + slackened.offset
  pub fewest : Fewest (storage text statement).width first width

-- or it stands at the end of an occurrence of a group of the record with OCCURS and without DEPENDING ON that holds an
-- aligned item, and is the fewest bytes that bring its width to a multiple of the largest alignment in it: the occurrence
-- starts at the byte `start`, where its members are told so, and the slack stands behind its list
pub record Ended (text : List ℕ) (f : Forest) (first width : ℕ) : Type 0 where
  pub statement : Statement
  pub list : Forest
  pub of : ItemOf f statement list
  pub start : ℕ
  pub members : Entries
  pub told-there : Tells text start 0 list members
  pub has-occurs : repeats statement.clauses.occurs ≡ true
  pub no-depending : is_given statement.clauses.depending ≡ false
  pub largest : Largest text (alignment text list) list
  pub from : first ≡ start + record_length members
  pub fewest : Fewest (alignment text list) (record_length members) width

-- the pieces of the entry of number n
abbrev pub is_of : ℕ → Holder → ℕ
is_of n (occurrence k) = if eqb n k then 1 else 0
is_of n (slack k) = 0

abbrev pub pieces# : ℕ → List Spot → ℕ
pieces# n [] = 0
pieces# n (x ∷ xs) = is_of n x.holder + pieces# n xs

-- the counts along the groups around that entry, multiplied
abbrev pub here# : ℕ → ℕ → Entries → ℕ → ℕ
here# n k end inner = if eqb n k then 1 else 0
here# n k (entry e members later) inner = inner

unfoldable pub counts : ℕ → ℕ → Entries → ℕ
counts n k end = 0
counts n k (entry e members later) =
    times e.occurs * here# n k members (counts n (suc k) members) + counts n (suc k + entries# members) later
