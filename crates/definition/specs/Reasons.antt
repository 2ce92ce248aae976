-- The chain of reasons of an entry: how the layout rules placed the statement behind it, from its own list outward.
-- Reasons name items as the copybook has them before folding. `Explained` says what holds of them.
-- Assumes nothing.
use Rattle.std.specs.Prelude.{ℕ, zero, suc, Bool, not, List, [], ◌∷◌, ◌++◌, eqb, if◌then◌else◌}
use Rattle.std.specs.Prelude.{Option, None, Some}
use Rattle.definition.specs.declared.Span.{Span}
use Rattle.definition.specs.declared.Entry.{Entry}
use Rattle.definition.specs.declared.Reason.{Reason}
use Rattle.definition.specs.declared.Refusal.{Refusal}
use Rattle.definition.specs.Basic.{absent, is_given, le4, Answer, Ok, ◌>>=◌, or_refuse}
use Rattle.definition.specs.Fold.{Entries, end, entry, entry_end, same_name, folded_all}
use Rattle.definition.specs.Listing.{span_bytes}

-- ---------------------------------------------------------------- reasons

-- directly after the sibling named: adds that sibling's offset plus reserved width, slack at ends included
abbrev pub after : Entry → Reason
after e = Reason.After e.name (entry_end e)

-- so many slack bytes for alignment, if any
abbrev pub slack_of : ℕ → List Reason
slack_of zero = []
slack_of (suc n) = Reason.Slack (suc n) ∷ []

-- laid over the redefined item named: adds the target's offset
abbrev pub over : Entry → Reason
over e = Reason.Over e.name e.offset

-- inside the group named
abbrev pub inside : Entry → Reason
inside e = Reason.Inside e.name

-- its kind: 1 first in its list, 2 after an item, 3 slack, 4 over an item, 5 inside a group
abbrev pub reason_kind : Reason → ℕ
reason_kind Reason.First = 1
reason_kind (Reason.After name adds) = 2
reason_kind (Reason.Slack adds) = 3
reason_kind (Reason.Over name adds) = 4
reason_kind (Reason.Inside name) = 5

-- the name of the item that it names, if any
abbrev pub reason_name : Reason → Span
reason_name Reason.First = absent
reason_name (Reason.After name adds) = name
reason_name (Reason.Slack adds) = absent
reason_name (Reason.Over name adds) = name
reason_name (Reason.Inside name) = name

-- the bytes that it adds
abbrev pub adds : Reason → ℕ
adds Reason.First = 0
adds (Reason.After name n) = n
adds (Reason.Slack n) = n
adds (Reason.Over name n) = n
adds (Reason.Inside name) = 0

-- ---------------------------------------------------------------- the reasons of an item

-- the latest of the earlier siblings that has this; they stand with the latest first
unfoldable pub latest : (Entry → Bool) → List Entry → Option Entry
latest has [] = None
latest has (e ∷ seen) = if has e then Some e else latest has seen

-- it is without REDEFINES; it has that name, case aside
abbrev pub plain : Entry → Bool
plain e = not (is_given e.redefines)

abbrev pub has_name : List ℕ → Span → Entry → Bool
has_name text w e = same_name text w e.name

abbrev pub or_first : (Entry → Reason) → Option Entry → Reason
or_first r None = Reason.First
or_first r (Some e) = r e

-- the placing reason: with REDEFINES laid over the latest earlier sibling of that name, else directly after the latest
-- earlier one without REDEFINES, or first in its list
abbrev pub placing : List ℕ → List Entry → Entry → Reason
placing text seen e =
    if is_given e.redefines then or_first over (latest (has_name text e.redefines) seen) else or_first after
    (latest plain seen)

-- the placing reason comes first, then the slack
abbrev pub own : List ℕ → List Entry → Entry → List Reason
own text seen e = placing text seen e ∷ slack_of e.slack

-- ---------------------------------------------------------------- chains

-- a statement, by its first byte, and its reasons
pub record Chain : Type 0 where
  pub at : ℕ
  pub reasons : List Reason

abbrev pub chain : ℕ → List Reason → Chain
chain at reasons = record { at = at; reasons = reasons }

-- the chains of a list, whose earlier siblings are `seen`, and of the lists below it, in copybook order: an item's own
-- reasons, then `outward`, which for the members of a group is kind 5 and the group's own chain, and for the fields of
-- the record nothing (a dropped root gives none)
unfoldable pub chains : List ℕ → List Reason → List Entry → Entries → List Chain
chains text outward seen end = []
chains text outward seen (entry e members later) =
    let reasons = own text seen e ++ outward in
    chain e.at reasons ∷ (chains text (inside e ∷ reasons) [] members ++ chains text outward (e ∷ seen) later)

-- the chain of the statement that begins at a byte
unfoldable pub chain_at : ℕ → List Chain → List Reason
chain_at at [] = []
chain_at at (c ∷ cs) = if eqb at c.at then c.reasons else chain_at at cs

-- ---------------------------------------------------------------- an entry of the listing

-- the entries in the order of the listing, a group before its members
abbrev pub flat : Entries → List Entry
flat end = []
flat (entry e members later) = e ∷ (flat members ++ flat later)

abbrev pub numbered : ℕ → List Entry → Option Entry
numbered n [] = None
numbered zero (e ∷ es) = Some e
numbered (suc n) (e ∷ es) = numbered n es

-- the chain of an entry by its number, where a record's entries are these before folding: that of the statement behind
-- it; a folded group has its base's chain, for it begins where its base does. An entry number past the listing is 53
unfoldable pub reasons_in : ℕ → List ℕ → Entries → Answer (List Reason)
reasons_in number text es = do
  e ← or_refuse Refusal.NoSuchEntry (numbered number (flat (folded_all text es)))
  Ok (chain_at e.at (chains text [] [] es))

-- each is 13 bytes: its kind, the named item's start and length (0 if none), and the bytes it adds
abbrev pub reason_bytes : Reason → List ℕ
reason_bytes r = reason_kind r ∷ span_bytes (reason_name r) ++ le4 (adds r)

unfoldable pub reasons_bytes : List Reason → List ℕ
reasons_bytes [] = []
reasons_bytes (r ∷ rs) = reason_bytes r ++ reasons_bytes rs
