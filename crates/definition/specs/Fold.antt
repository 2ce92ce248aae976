-- Entries of the listing, and folding: each base stands with the entries that redefine it in one group:
-- `fold_redefines`, `rebase` and `is_synthetic_union` of the Rust, odd corners included.
-- Assumes nothing.
use Rattle.std.specs.Prelude.{ℕ, suc, ◌+◌, ◌*◌, ◌-◌, max, Bool, true, false, List, [], ◌∷◌, ltb, if◌then◌else◌}
use Rattle.std.specs.Prelude.{Option, None, Some}
use Rattle.definition.specs.declared.Span.{Span}
use Rattle.definition.specs.declared.FieldKind.{FieldKind}
use Rattle.definition.specs.declared.Entry.{Entry}
use Rattle.definition.specs.declared.Refusal.{Refusal}
use Rattle.definition.specs.Basic.{bytes, same, uppers, absent, is_given, part, Answer, Ok}
use Rattle.definition.specs.Basic.{◌>>=◌, refuse_if}

-- ---------------------------------------------------------------- entries

-- a list of siblings: nothing, or an entry with the list of its members and the list of its later siblings
pub data Entries : Type 0 where
  end : Entries
  entry : Entry → Entries → Entries → Entries

-- the list a, then the list b
unfoldable pub append : Entries → Entries → Entries
append end b = b
append (entry e members later) b = entry e members (append later b)

abbrev pub times : Option ℕ → ℕ
times None = 1
times (Some n) = n

-- the bytes of all occurrences, and those of them that are reserved: none under DEPENDING ON
abbrev pub total : Entry → ℕ
total e = e.width * times e.occurs

abbrev pub reserved : Entry → ℕ
reserved e = if is_given e.depending then 0 else total e

-- offset plus reserved width
abbrev pub entry_end : Entry → ℕ
entry_end e = e.offset + reserved e

-- ---------------------------------------------------------------- names

-- the bytes of a name; an absent one means FILLER
abbrev pub name_of : List ℕ → Span → List ℕ
name_of text w = if is_given w then part text w else bytes "FILLER"

-- the same name, case aside, and case included
abbrev pub same_name : List ℕ → Span → Span → Bool
same_name text a b = same (uppers (name_of text a)) (uppers (name_of text b))

abbrev pub same_spelling : List ℕ → Span → Span → Bool
same_spelling text a b = same (name_of text a) (name_of text b)

-- a name and the offset it stands for
pub record Place : Type 0 where
  pub name : Span
  pub offset : ℕ

abbrev pub place_of : Entry → Place
place_of e = record { name = e.name; offset = e.offset }

-- what a search for a name comes to: the offset of the place where it ended, if one has the name, and how many names it
-- compared
pub record Search : Type 0 where
  pub found : Option ℕ
  pub compared : ℕ

abbrev pub one_more : Search → Search
one_more s = record { found = s.found; compared = suc s.compared }

-- the search for a name, backward from the item: it ends at the first match. The places are the earlier siblings, the
-- latest first
unfoldable pub search_back : List ℕ → Span → List Place → Search
search_back text w [] = record { found = None; compared = 0 }
search_back text w (p ∷ ps) =
    if same_name text w p.name then record { found = Some p.offset; compared = 1 }
    else one_more (search_back text w ps)

-- where it ended: the offset of the first place of that name
unfoldable pub find : List ℕ → Span → List Place → Option ℕ
find text w ps = (search_back text w ps).found

-- ---------------------------------------------------------------- fold

-- a real group with a member of its own name, case included, counts as already folded
unfoldable pub has_member : List ℕ → Span → Entries → Bool
has_member text w end = false
has_member text w (entry e members later) = if same_spelling text w e.name then true else has_member text w later

-- an entry as a member of the group that starts at the offset
abbrev pub rebased : ℕ → Entry → Entry
rebased start e = record e { offset = e.offset - start; redefines = absent }

-- the entries that redefine a base: those of its name before the next base of that name
unfoldable pub redefiners : List ℕ → Place → Entries → Entries
redefiners text base end = end
redefiners text base (entry e members later) =
    if is_given e.redefines then
    (if same_name text base.name e.redefines
    then entry (rebased base.offset e) members (redefiners text base later)
    else redefiners text base later)
    else if same_name text base.name e.name then end
    else redefiners text base later

-- the most bytes that an entry of the list has in all its occurrences
unfoldable pub widest : Entries → ℕ
widest end = 0
widest (entry e members later) = max (total e) (widest later)

-- the group that stands for a base and its redefiners: it has its base's place, and no clause or slack of its own
abbrev pub union : Entry → ℕ → Entry
union e width =
    record {
      at = e.at;
      level = e.level;
      name = e.name;
      offset = e.offset;
      width = width;
      kind = FieldKind.Group;
      digits = None;
      picture = absent;
      usage = absent;
      sign = None;
      occurs = None;
      depending = absent;
      redefines = absent;
      over = absent;
      slack = 0;
      slack_at_end = 0;
      folded = true;
    }

-- the members of that group: the base, or its own members where it counts as already folded, then the redefiners
abbrev pub union_members : List ℕ → Entry → Entries → Entries → Entries
union_members text e members rs =
    if has_member text e.name members then append members rs
    else entry (rebased e.offset e) members rs

-- a base with its redefiners, before the later entries
abbrev pub with_redefiners : List ℕ → Entry → Entries → Entries → Entries → Entries
with_redefiners text e members end later = entry e members later
with_redefiners text e members (entry r ms rs) later =
    let us = union_members text e members (entry r ms rs) in
    entry (union e (widest us)) us later

-- 30: a redefiner that starts before its base. `bases` are the earlier bases, the latest first
unfoldable pub fold_check : List ℕ → List Place → Entries → Answer (Unit {0})
fold_check text bases end = Ok tt
fold_check text bases (entry e members later) =
    if is_given e.redefines then
    (elim (find text e.redefines bases) [
      | None ↦ fold_check text bases later
      | Some base ↦ do
        _ ← refuse_if (ltb e.offset base) (Refusal.StartsBeforeBase e.at)
        fold_check text bases later
    ])
    else fold_check text (place_of e ∷ bases) later

-- a redefiner stands with its base where some base has that name
abbrev pub has_base : Option ℕ → Bool
has_base None = false
has_base (Some base) = true

-- each base stands with its redefiners; a redefiner stands by itself only where no base has that name
unfoldable pub folded_list : List ℕ → List Place → Entries → Entries
folded_list text bases end = end
folded_list text bases (entry e members later) =
    elim (is_given e.redefines) [
      | true ↦
          if has_base (find text e.redefines bases) then folded_list text bases later
          else entry e members (folded_list text bases later)
      | false ↦ with_redefiners text e members (redefiners text (place_of e) later)
          (folded_list text (place_of e ∷ bases) later)
    ]

-- every list below folded, and not this one
unfoldable pub folded_below : List ℕ → Entries → Entries
folded_below text end = end
folded_below text (entry e members later) =
    entry e (folded_list text [] (folded_below text members)) (folded_below text later)

-- every list folded
abbrev pub folded_all : List ℕ → Entries → Entries
folded_all text es = folded_list text [] (folded_below text es)
