-- What holds of the reasons of every accepted copybook, free text or cards (`explained`, of the proofs, keeps it): each
-- is the one by which the layout rules placed the item, and they add up to its offset from the record start.
-- Assumes nothing.
use Rattle.std.specs.Prelude.{ℕ, suc, ◌+◌, ◌≡◌, Bool, true, false, List, [], ◌∷◌, ◌++◌, ◌⊎◌, get_or, if◌then◌else◌}
use Rattle.std.specs.Prelude.{None, Some}
use Rattle.definition.specs.declared.Span.{Span}
use Rattle.definition.specs.declared.Statement.{Statement}
use Rattle.definition.specs.declared.Entry.{Entry}
use Rattle.definition.specs.declared.Reason.{Reason}
use Rattle.definition.specs.declared.Refusal.{Refusal}
use Rattle.definition.specs.Basic.{Err, is_given, Ok, ◌>>=◌}
use Rattle.definition.specs.Tree.{Forest, leaf, item}
use Rattle.definition.specs.Storage.{place_alignment}
use Rattle.definition.specs.Fold.{Entries, end, entry, reserved, folded_all}
use Rattle.definition.specs.Record.{unfolded}
use Rattle.definition.specs.Cards.{view_in}
use Rattle.definition.specs.declared.Form.{Form}
use Rattle.definition.specs.declared.Report.{Report}
use Rattle.definition.specs.Calls.{record_fields, asked, fitting, report, called}
use Rattle.definition.specs.Demand.{Fewest, Among}
use Rattle.definition.specs.Reasons.{adds, slack_of, plain, has_name, own, Chain, chains, flat, numbered}
use Rattle.definition.specs.Reasons.{reasons_in, reasons_bytes}

-- ---------------------------------------------------------------- one item

abbrev pub NoneHas : (Entry → Bool) → List Entry → Type 0
NoneHas has [] = Unit {0}
NoneHas has (e ∷ es) = (has e ≡ false) × NoneHas has es

-- t is the latest of the earlier siblings that has this: it has, and none since has
pub record Latest (has : Entry → Bool) (seen : List Entry) (t : Entry) : Type 0 where
  pub since : List Entry
  pub before : List Entry
  pub stands : seen ≡ since ++ t ∷ before
  pub it-has : has t ≡ true
  pub none-since : NoneHas has since

-- the item's own reasons are r and the slack, if any: with it the item stands where it does, and it is the fewest bytes
-- that bring its place in the record to a multiple of its alignment. Its list starts at the byte `base` of the record
pub record Turn (text : List ℕ) (base : ℕ) (s : Statement) (kids : Forest) (seen : List Entry) (e : Entry)
    (r : Reason) : Type 0 where
  pub reasons : own text seen e ≡ r ∷ slack_of e.slack
  pub stands : e.offset ≡ adds r + e.slack
  pub fewest : Fewest (place_alignment text s kids) (base + adds r) e.slack

-- the item of a statement, with its earlier siblings, the latest first
pub record Because (text : List ℕ) (base : ℕ) (s : Statement) (kids : Forest) (seen : List Entry)
    (e : Entry) : Type 0 where
  -- with REDEFINES one reason, kind 4: it names the latest earlier sibling of that name and adds its offset, at which
  -- the item stands
  pub laid-over :
      is_given s.clauses.redefines ≡ true →
      (t : Entry)
      × Latest (has_name text s.clauses.redefines) seen t
      × (own text seen e ≡ Reason.Over t.name t.offset ∷ [])
      × (e.offset ≡ t.offset)
  -- else kind 1, where no sibling is earlier, or kind 2: it names the latest earlier sibling without REDEFINES and adds
  -- its end; then the slack
  pub in-turn :
      is_given s.clauses.redefines ≡ false →
      ((seen ≡ []) × Turn text base s kids seen e Reason.First)
      ⊎ ((t : Entry) × Latest plain seen t × Turn text base s kids seen e (Reason.After t.name (t.offset + reserved t)))

-- the entries of a list that starts at the byte `base` of the record, and of those below it, one for each statement
abbrev pub Explains : List ℕ → ℕ → List Entry → Forest → Entries → Type 0
Explains text base seen leaf end = Unit {0}
Explains text base seen (item s kids later) (entry e members others) =
    ((e.at ≡ s.at) × (e.name ≡ s.name))
    × Because text base s kids seen e
    × Explains text (base + e.offset) [] kids members
    × Explains text base (e ∷ seen) later others
Explains text base seen leaf (entry e members others) = ⊥
Explains text base seen (item s kids later) end = ⊥

-- ---------------------------------------------------------------- chains

-- the bytes that reasons add
abbrev pub added : List Reason → ℕ
added [] = 0
added (r ∷ rs) = adds r + added rs

-- how many are placing reasons, of kind 1, 2 or 4
abbrev pub is_placing : Reason → Bool
is_placing Reason.First = true
is_placing (Reason.After name n) = true
is_placing (Reason.Slack n) = false
is_placing (Reason.Over name n) = true
is_placing (Reason.Inside name) = false

abbrev pub placings# : List Reason → ℕ
placings# [] = 0
placings# (r ∷ rs) = (if is_placing r then 1 else 0) + placings# rs

-- what those name that say inside a group
abbrev pub inside_names : Reason → List Span
inside_names Reason.First = []
inside_names (Reason.After name n) = []
inside_names (Reason.Slack n) = []
inside_names (Reason.Over name n) = []
inside_names (Reason.Inside name) = name ∷ []

abbrev pub insides : List Reason → List Span
insides [] = []
insides (r ∷ rs) = inside_names r ++ insides rs

abbrev pub every : {A : Type 0} → (List Reason → A) → List Chain → List A
every f [] = []
every f (c ∷ cs) = f c.reasons ∷ every f cs

-- the entries' offsets from the record start, in copybook order: their own and those of the groups around them, added
-- up
abbrev pub from_start : ℕ → Entries → List ℕ
from_start base end = []
from_start base (entry e members later) =
    (base + e.offset) ∷ (from_start (base + e.offset) members ++ from_start base later)

-- how many items are placed for each: itself and the groups around it
abbrev pub placed_for : ℕ → Entries → List ℕ
placed_for n end = []
placed_for n (entry e members later) = n ∷ (placed_for (suc n) members ++ placed_for n later)

-- the names of the groups around each, outward
abbrev pub groups_around : List Span → Entries → List (List Span)
groups_around ws end = []
groups_around ws (entry e members later) = ws ∷ (groups_around (e.name ∷ ws) members ++ groups_around ws later)

-- ---------------------------------------------------------------- a copybook

-- text is what the reader sees, f are the fields of the record, tree its entries as the copybook has them before
-- folding, es those of its listing
pub record Reasoned (text : List ℕ) (f : Forest) (tree es : Entries) : Type 0 where
  -- each reason is the one by which the layout rules placed the item
  pub rules : Explains text 0 [] f tree
  -- the bytes added up are the item's offset from the record start
  pub sums : every added (chains text [] [] tree) ≡ from_start 0 tree
  -- one placing reason for the item and one for each group outward,
  pub placed-once : every placings# (chains text [] [] tree) ≡ placed_for 1 tree
  -- and one kind 5 for each group outward, which it names
  pub inside-each : every insides (chains text [] [] tree) ≡ groups_around [] tree
  -- no two statements begin at the same byte,
  pub one-chain :
      (c d : Chain) →
      Among c (chains text [] [] tree) →
      Among d (chains text [] [] tree) →
      c.at ≡ d.at →
      c ≡ d
  -- and an entry of the listing has the chain of the one that begins where it does, which adds up to its offset from
  -- the record start by the listing too;
  pub answered :
      (n : ℕ) (e : Entry) →
      numbered n (flat es) ≡ Some e →
      (c : Chain)
      × Among c (chains text [] [] tree)
      × (c.at ≡ e.at)
      × (added c.reasons ≡ get_or (from_start 0 es) n 0)
      × (reasons_in n text tree ≡ Ok c.reasons)
  -- past the listing is 53
  pub past : (n : ℕ) → numbered n (flat es) ≡ None → reasons_in n text tree ≡ Err Refusal.NoSuchEntry

-- what holds of every accepted copybook
pub record Explained (form : Form) (text : List ℕ) (work : ℕ) (es : Entries) : Type 0 where
  pub of : Forest
  pub read : record_fields (view_in form text) work ≡ Ok of
  pub tree : Entries
  pub laid_out : unfolded (view_in form text) of ≡ Ok tree
  pub folds : es ≡ folded_all (view_in form text) tree
  pub reasoned : Reasoned (view_in form text) of tree es
  -- the call answers with the bytes of the reasons, where the lent output has room for them
  pub calls :
      (n room : ℕ) →
      called form (λ t. asked (report (Report.Reasons n) room) t work) text work
      ≡ (reasons_in n (view_in form text) tree >>= λ rs. fitting room (reasons_bytes rs))
