-- The reasons that are answered of an entry, byte by byte, by the copybook's statements and their entries before
-- folding: an item's own, each by the layout rule that placed it, then for each group outward kind 5 and the group's own.
-- Assumes nothing.
use Rattle.std.specs.Prelude.{ℕ, zero, suc, ◌+◌, ◌/◌, ◌%◌, ◌≡◌, true, false, not, Some, List, [], ◌∷◌, ◌++◌, ◌⊎◌}
use Rattle.definition.specs.declared.Span.{Span}
use Rattle.definition.specs.declared.Statement.{Statement}
use Rattle.definition.specs.declared.Entry.{Entry}
use Rattle.definition.specs.Basic.{is_given, Ok}
use Rattle.definition.specs.Tree.{Forest, leaf, item}
use Rattle.definition.specs.Fold.{Entries, end, entry, reserved, same_name}
use Rattle.definition.specs.Record.{unfolded}
use Rattle.definition.specs.Cards.{view_in}
use Rattle.definition.specs.declared.Form.{Form}
use Rattle.definition.specs.declared.Report.{Report}
use Rattle.definition.specs.Calls.{record_fields, asked, fitting, report, called}
use Rattle.definition.specs.Storage.{place_alignment}
use Rattle.definition.specs.Demand.{Fewest, Among}
use Rattle.definition.specs.Explained.{Latest}
use Rattle.definition.specs.Reasons.{flat, numbered}

-- ---------------------------------------------------------------- bytes

-- a number in four bytes, little-endian
abbrev pub four : ℕ → List ℕ
four n = n % 256 ∷ n / 256 % 256 ∷ n / 65536 % 256 ∷ n / 16777216 % 256 ∷ []

-- a reason in 13 bytes: its kind, the start and length of the name of the item that it names, and the bytes it adds
abbrev pub thirteen : ℕ → ℕ → ℕ → ℕ → List ℕ
thirteen kind start len adds = kind ∷ four start ++ four len ++ four adds

abbrev pub first : List ℕ
first = thirteen 1 0 0 0

abbrev pub after : Span → ℕ → List ℕ
after name adds = thirteen 2 name.start name.len adds

abbrev pub slack : ℕ → List ℕ
slack zero = []
slack (suc n) = thirteen 3 0 0 (suc n)

abbrev pub over : Span → ℕ → List ℕ
over name adds = thirteen 4 name.start name.len adds

abbrev pub inside : Span → List ℕ
inside name = thirteen 5 name.start name.len 0

-- ---------------------------------------------------------------- items

-- an item of the copybook: its statement, the statements below it, the byte of the record at which its list starts, its
-- earlier siblings, the latest first, and its own entry, before folding
pub record Item : Type 0 where
  pub statement : Statement
  pub kids : Forest
  pub list-at : ℕ
  pub earlier : List Entry
  pub own : Entry

-- the items of a list that starts at that byte and of those below it, each with the groups around it, the innermost
-- first; the list of a group starts where its first occurrence does
abbrev pub item_of : Statement → Forest → ℕ → List Entry → Entry → Item
item_of s kids list-at earlier e =
    record { statement = s; kids = kids; list-at = list-at; earlier = earlier; own = e }

abbrev pub items : List Item → ℕ → List Entry → Forest → Entries → List (List Item)
items groups list-at earlier leaf es = []
items groups list-at earlier (item s kids later) end = []
items groups list-at earlier (item s kids later) (entry e members others) =
    let i = item_of s kids list-at earlier e in
    (i ∷ groups)
    ∷ (items (i ∷ groups) (list-at + e.offset) [] kids members ++ items groups list-at (e ∷ earlier) later others)

-- where the statement of the first of these begins
abbrev pub begins : List Item → ℕ
begins [] = 0
begins (i ∷ groups) = i.statement.at

-- ---------------------------------------------------------------- an item's own reasons

-- with REDEFINES kind 4: it names the latest earlier sibling of that name and adds its offset, at which the item stands
pub record LaidOver (text : List ℕ) (i : Item) (bs : List ℕ) : Type 0 where
  pub target : Entry
  pub nearest : Latest (λ t. same_name text i.statement.clauses.redefines t.name) i.earlier target
  pub bytes-are : bs ≡ over target.name target.offset
  pub stands : i.own.offset ≡ target.offset

-- what else places it: kind 1, where no sibling is earlier, or kind 2, which names the latest earlier sibling without
-- REDEFINES and adds its end
abbrev pub Placing : List Entry → List ℕ → ℕ → Type 0
Placing earlier bs reached =
    ((earlier ≡ []) × (bs ≡ first) × (reached ≡ 0))
    ⊎ ((t : Entry)
    × Latest (λ x. not (is_given x.redefines)) earlier t
    × (bs ≡ after t.name reached)
    × (reached ≡ t.offset + reserved t))

-- then kind 3, where there is slack: the fewest bytes that bring the place in the record of an elementary SYNC binary or
-- float item to a multiple of its width, and with them the item stands where it does; no other item has any
pub record InTurn (text : List ℕ) (i : Item) (bs : List ℕ) : Type 0 where
  pub reached : ℕ
  pub places : List ℕ
  pub placed-by : Placing i.earlier places reached
  pub bytes-are : bs ≡ places ++ slack i.own.slack
  pub stands : i.own.offset ≡ reached + i.own.slack
  pub fewest : Fewest (place_alignment text i.statement i.kids) (i.list-at + reached) i.own.slack

pub record Own (text : List ℕ) (i : Item) (bs : List ℕ) : Type 0 where
  pub with-redefines : is_given i.statement.clauses.redefines ≡ true → LaidOver text i bs
  pub without : is_given i.statement.clauses.redefines ≡ false → InTurn text i bs

-- ---------------------------------------------------------------- outward

-- for each group outward kind 5, which names it, and the group's own
abbrev pub Outward : List ℕ → List Item → List ℕ → Type 0
Outward text [] bs = bs ≡ []
Outward text (g ∷ groups) bs =
    (own : List ℕ)
    × (rest : List ℕ)
    × (bs ≡ inside g.own.name ++ (own ++ rest))
    × Own text g own
    × Outward text groups rest

-- an item's own, then those
abbrev pub Chain : List ℕ → List Item → List ℕ → Type 0
Chain text [] bs = ⊥
Chain text (i ∷ groups) bs =
    (own : List ℕ) × (rest : List ℕ) × (bs ≡ own ++ rest) × Own text i own × Outward text groups rest

-- ---------------------------------------------------------------- answers

-- what is answered of the entry e of number n: the reasons of the item whose statement begins where the entry does.
-- tree are the entries before folding
pub record Answered (form : Form) (text : List ℕ) (work : ℕ) (f : Forest) (tree : Entries) (n : ℕ) (e : Entry) : Type 0
  where
    pub which : Item
    pub groups : List Item
    pub stands : Among (which ∷ groups) (items [] 0 [] f tree)
    pub begins-there : which.statement.at ≡ e.at
    pub bytes : List ℕ
    pub chain : Chain (view_in form text) (which ∷ groups) bytes
    pub answer : (room : ℕ) → called form (λ t. asked (report (Report.Reasons n) room) t work) text work ≡ fitting room bytes

-- so of each entry of the listing of an accepted copybook, free text or cards
pub record Chained (form : Form) (text : List ℕ) (work : ℕ) (es : Entries) : Type 0 where
  pub of : Forest
  pub tree : Entries
  pub read : record_fields (view_in form text) work ≡ Ok of
  pub laid_out : unfolded (view_in form text) of ≡ Ok tree
  -- no two statements begin at the same byte
  pub one-item :
      (p q : List Item) →
      Among p (items [] 0 [] of tree) →
      Among q (items [] 0 [] of tree) →
      begins p ≡ begins q →
      p ≡ q
  pub answered : (n : ℕ) (e : Entry) → numbered n (flat es) ≡ Some e → Answered form text work of tree n e
