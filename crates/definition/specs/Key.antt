-- One key for a family of records: the column of one name that each copybook of a set has in the same place, so that
-- their records are sorted by it. Names, places and kinds are those of the folded listings.
-- Assumes nothing.
use Rattle.std.specs.Prelude.{ℕ, Bool, true, false, ◌&&◌, ◌||◌, not, List, [], ◌∷◌, eqb, leb, length, take, drop, if◌then◌else◌}
use Rattle.std.specs.Prelude.{Option, None, Some}
use Rattle.definition.specs.declared.Span.{Span}
use Rattle.definition.specs.declared.Usage.{Usage}
use Rattle.definition.specs.declared.FieldKind.{FieldKind}
use Rattle.definition.specs.declared.Entry.{Entry}
use Rattle.definition.specs.declared.KeyColumn.{KeyColumn}
use Rattle.definition.specs.declared.Refusal.{Refusal}
use Rattle.definition.specs.declared.TheConstants.{LONGEST_MASK, FEWEST_IN_SET, MOST_IN_SET}
use Rattle.definition.specs.Basic.{same, uppers, absent, is_given, part, sum}
use Rattle.definition.specs.Basic.{Answer, Err, Ok, ◌>>=◌, refuse_if, or_refuse}
use Rattle.definition.specs.Fold.{Entries, end, entry, name_of}
use Rattle.definition.specs.Record.{variable}
use Rattle.definition.specs.Listing.{kind_byte, details}
use Rattle.definition.specs.Calls.{entries, picture_mask, After, left, cleared}

-- ---------------------------------------------------------------- the entries of that name

-- an entry has the name, without regard to case; an absent one means FILLER
abbrev pub is_named : List ℕ → List ℕ → Entry → Bool
is_named text name e = same (uppers name) (uppers (name_of text e.name))

-- an entry, and whether a DEPENDING ON stands before it in the listing
pub record Named : Type 0 where
  pub own : Entry
  pub behind : Bool

abbrev pub named : Entry → Bool → Named
named e behind = record { own = e; behind = behind }

-- the entries of that name at the top, where a DEPENDING ON stood before the list or none; one on an entry, or on any
-- below it, stands before the later entries
unfoldable pub named_in : List ℕ → List ℕ → Bool → Entries → List Named
named_in text name behind end = []
named_in text name behind (entry e members later) =
    let more = named_in text name (behind || (is_given e.depending || variable members)) later in
    if is_named text name e then named e behind ∷ more else more

-- ---------------------------------------------------------------- the key of a copybook

-- without OCCURS: OCCURS 0 and OCCURS 1 are OCCURS
abbrev pub is_once : Option ℕ → Bool
is_once None = true
is_once (Some n) = false

abbrev pub is_group : FieldKind → Bool
is_group FieldKind.Text = false
is_group (FieldKind.Int signed sign) = false
is_group (FieldKind.Binary signed) = false
is_group (FieldKind.Decimal precision scale repr sign) = false
is_group (FieldKind.Edited precision scale signed) = false
is_group FieldKind.Group = true
is_group (FieldKind.Float bits) = false

-- an entry may be a key: without OCCURS or REDEFINES, with no DEPENDING ON before it, and no group
abbrev pub may_be_key : Named → Bool
may_be_key x =
    not x.behind && (is_once x.own.occurs && (not (is_given x.own.redefines) && not (is_group x.own.kind)))

-- the mask that is answered of a picture; that of an accepted copybook's edited item is not refused
abbrev pub mask_answered : Answer (List ℕ) → List ℕ
mask_answered (Err r) = []
mask_answered (Ok m) = m

-- what an edited key is compared by, and not by its place in the text: the mask of its picture
abbrev pub key_mask : List ℕ → FieldKind → Span → List ℕ
key_mask text FieldKind.Text w = []
key_mask text (FieldKind.Int signed sign) w = []
key_mask text (FieldKind.Binary signed) w = []
key_mask text (FieldKind.Decimal precision scale repr sign) w = []
key_mask text (FieldKind.Edited precision scale signed) w =
    mask_answered (picture_mask Usage.Display (part text w) LONGEST_MASK)
key_mask text FieldKind.Group w = []
key_mask text (FieldKind.Float bits) w = []

-- what all copybooks of a set must agree in
pub record Key : Type 0 where
  pub offset : ℕ
  pub width : ℕ
  pub kind : FieldKind
  pub mask : List ℕ

abbrev pub key_of : List ℕ → Entry → Key
key_of text e =
    record { offset = e.offset; width = e.width; kind = e.kind; mask = key_mask text e.kind e.picture }

-- exactly one entry has the name, and it may be a key
abbrev pub one_key : List ℕ → List Named → Option Key
one_key text [] = None
one_key text (x ∷ []) = if may_be_key x then Some (key_of text x.own) else None
one_key text (x ∷ y ∷ more) = None

abbrev pub key_among : List ℕ → List ℕ → Entries → Option Key
key_among text name es = one_key text (named_in text name false es)

-- the key of a copybook, or none; or the reader refuses it
unfoldable pub key_in : ℕ → List ℕ → List ℕ → Answer (Option Key)
key_in work name text = do
  es ← entries text work
  Ok (key_among text name es)

-- ---------------------------------------------------------------- the key of a set

-- a kind and its details as the listing has them, but for the place of a picture
abbrev pub kind_details : FieldKind → List ℕ
kind_details k = kind_byte k ∷ details k absent 0

-- they agree in offset, width, kind and kind details
abbrev pub same_key : Key → Key → Bool
same_key a b =
    eqb a.offset b.offset
    && (eqb a.width b.width
    && (same (kind_details a.kind) (kind_details b.kind) && same a.mask b.mask))

abbrev pub agree : Option Key → Option Key → Bool
agree None b = false
agree (Some a) None = false
agree (Some a) (Some b) = same_key a b

unfoldable pub all_agree : Option Key → List (Option Key) → Bool
all_agree a [] = true
all_agree a (b ∷ bs) = agree a b && all_agree a bs

-- the key of the first, where all later ones agree with it
abbrev pub common : List (Option Key) → Option Key
common [] = None
common (a ∷ bs) = if all_agree a bs then a else None

-- the keys of copybooks, or the refusal of the first that is refused, its position counted in that copybook
unfoldable pub keys_in : ℕ → List ℕ → List (List ℕ) → Answer (List (Option Key))
keys_in work name [] = Ok []
keys_in work name (text ∷ texts) = do
  k ← key_in work name text
  ks ← keys_in work name texts
  Ok (k ∷ ks)

-- the bytes lent, cut into copybooks of these lengths
unfoldable pub copybooks : List ℕ → List ℕ → List (List ℕ)
copybooks [] bs = []
copybooks (n ∷ ns) bs = take n bs ∷ copybooks ns (drop n bs)

-- 2 to 16 copybooks, whose stated lengths add up to the bytes lent
abbrev pub is_set : List ℕ → List ℕ → Bool
is_set lengths texts =
    leb FEWEST_IN_SET (length lengths) && (leb (length lengths) MOST_IN_SET && eqb (sum lengths) (length texts))

-- the offset and width of the key that all copybooks of a set have: 56 before any reading, 57 after it
unfoldable pub key_of_texts : List ℕ → List ℕ → List ℕ → ℕ → Answer KeyColumn
key_of_texts texts lengths name work = do
  _ ← refuse_if (not (is_set lengths texts)) Refusal.NotASet
  ks ← keys_in work name (copybooks lengths texts)
  k ← or_refuse Refusal.NoCommonKey (common ks)
  Ok (record { offset = k.offset; width = k.width })

-- the call, with work memory lent
abbrev pub key_call : List ℕ → List ℕ → List ℕ → List ℕ → After KeyColumn
key_call texts lengths name work = left (key_of_texts texts lengths name (length work)) [] (cleared work)
