-- The key of a set of copybooks, by cases: what a set is and which bytes are its copybooks, when 56, 57 or a copybook's
-- own refusal is given, and that the key is the one top-level entry of that name in each, all of them alike.
-- Assumes nothing.
use Rattle.std.specs.Prelude.{ℕ, suc, ◌+◌, ◌≤◌, ◌<◌, ◌≡◌, None, List, [], ◌∷◌, ◌⊎◌, length, take, drop, ltb, if◌then◌else◌}
use Rattle.definition.specs.declared.Span.{Span}
use Rattle.definition.specs.declared.Usage.{Usage}
use Rattle.definition.specs.declared.FieldKind.{FieldKind}
use Rattle.definition.specs.declared.Entry.{Entry}
use Rattle.definition.specs.declared.KeyColumn.{KeyColumn}
use Rattle.definition.specs.declared.Refusal.{Refusal}
use Rattle.definition.specs.Basic.{Err, Ok}
use Rattle.definition.specs.Fold.{Entries, end, entry, append}
use Rattle.definition.specs.Calls.{entries, picture_mask}
use Rattle.definition.specs.Key.{Key, key_of_texts}

-- ---------------------------------------------------------------- sets

abbrev pub added : List ℕ → ℕ
added [] = 0
added (n ∷ ns) = n + added ns

-- 2 to 16 copybooks, whose lengths add up to the bytes handed in
pub record IsSet (texts lengths : List ℕ) : Type 0 where
  pub more_than_one : 2 ≤ length lengths
  pub few : length lengths ≤ 16
  pub whole : added lengths ≡ length texts

-- copybook i: the bytes between the sum of the lengths before it and that with its own
abbrev pub copybook : List ℕ → List ℕ → ℕ → List ℕ
copybook texts lengths i = drop (added (take i lengths)) (take (added (take (suc i) lengths)) texts)

-- ---------------------------------------------------------------- names

-- a letter, and the same in upper case
abbrev pub Lower : ℕ → ℕ → Type 0
Lower x y = (97 ≤ x) × (x ≤ 122) × (x ≡ y + 32)

-- the same bytes, letter case aside
abbrev pub Alike : List ℕ → List ℕ → Type 0
Alike [] [] = Unit {0}
Alike (x ∷ xs) (y ∷ ys) = ((x ≡ y) ⊎ (Lower x y ⊎ Lower y x)) × Alike xs ys
Alike [] (y ∷ ys) = ⊥
Alike (x ∷ xs) [] = ⊥

-- the bytes of an entry's name; without one it is FILLER
abbrev pub spelling : List ℕ → Span → List ℕ
spelling text w = if ltb 0 w.len then take w.len (drop w.start text) else 70 ∷ 73 ∷ 76 ∷ 76 ∷ 69 ∷ 82 ∷ []

abbrev pub IsNamed : List ℕ → List ℕ → Entry → Type 0
IsNamed text name e = Alike name (spelling text e.name)

-- no entry of a list has the name
abbrev pub NoEntryNamed : List ℕ → List ℕ → Entries → Type 0
NoEntryNamed text name end = Unit {0}
NoEntryNamed text name (entry e members later) = (IsNamed text name e → ⊥) × NoEntryNamed text name later

-- ---------------------------------------------------------------- the key of a listing

-- no entry, at any depth, has a DEPENDING ON
abbrev pub NoneDepends : Entries → Type 0
NoneDepends end = Unit {0}
NoneDepends (entry e members later) = (e.depending.len ≡ 0) × NoneDepends members × NoneDepends later

-- what an edited item is compared by: the mask that is answered of its picture; nothing else has one
abbrev pub Masked : List ℕ → FieldKind → Span → List ℕ → Type 0
Masked text FieldKind.Text w m = m ≡ []
Masked text (FieldKind.Int signed sign) w m = m ≡ []
Masked text (FieldKind.Binary signed) w m = m ≡ []
Masked text (FieldKind.Decimal precision scale repr sign) w m = m ≡ []
Masked text (FieldKind.Edited precision scale signed) w m =
    picture_mask Usage.Display (take w.len (drop w.start text)) 255 ≡ Ok m
Masked text FieldKind.Group w m = m ≡ []
Masked text (FieldKind.Float bits) w m = m ≡ []

-- k is the key of a listing: that of the one entry of its name at the top, which stands between those before and those
-- after it, is no group, and has neither OCCURS nor REDEFINES; nothing before it, at any depth, has a DEPENDING ON
pub record IsKey (text name : List ℕ) (es : Entries) (k : Key) : Type 0 where
  pub own : Entry
  pub before : Entries
  pub members : Entries
  pub after : Entries
  pub stands : es ≡ append before (entry own members after)
  pub name-is : IsNamed text name own
  pub none_before : NoEntryNamed text name before
  pub none_after : NoEntryNamed text name after
  pub fixed : NoneDepends before
  pub once : own.occurs ≡ None
  pub plain : own.redefines.len ≡ 0
  pub no-group : own.kind ≡ FieldKind.Group → ⊥
  pub offset-is : own.offset ≡ k.offset
  pub width_is : own.width ≡ k.width
  pub kind-is : own.kind ≡ k.kind
  pub mask_is : Masked text own.kind own.picture k.mask

-- a copybook is read, and k is its key
pub record HasKey (work : ℕ) (name : List ℕ) (k : Key) (text : List ℕ) : Type 0 where
  pub listing : Entries
  pub read : entries text work ≡ Ok listing
  pub key : IsKey text name listing k

-- ---------------------------------------------------------------- what is answered

-- of these bytes, lengths and name
module _ (texts lengths name : List ℕ) (work : ℕ) where
  -- copybook i is read
  abbrev pub Read : ℕ → Type 0
  Read i = (es : Entries) × (entries (copybook texts lengths i) work ≡ Ok es)

  -- all have one key
  abbrev pub Common : Key → Type 0
  Common k = (i : ℕ) → i < length lengths → HasKey work name k (copybook texts lengths i)

  pub record KeyAnswers : Type 0 where
    -- what is no set is 56, whatever stands in it
    pub no-set : (IsSet texts lengths → ⊥) → key_of_texts texts lengths name work ≡ Err Refusal.NotASet
    -- of a set, the first copybook that the reader refuses gives that refusal, its position counted in it
    pub refused :
        IsSet texts lengths →
        (i : ℕ) →
        i < length lengths →
        ((j : ℕ) → j < i → Read j) →
        (r : Refusal) →
        entries (copybook texts lengths i) work ≡ Err r →
        key_of_texts texts lengths name work ≡ Err r
    -- where all are read and have no key in common it is 57,
    pub no-key :
        IsSet texts lengths →
        ((i : ℕ) → i < length lengths → Read i) →
        ((k : Key) → Common k → ⊥) →
        key_of_texts texts lengths name work ≡ Err Refusal.NoCommonKey
    -- and where they have one, its offset and width;
    pub one-key :
        IsSet texts lengths →
        (k : Key) →
        Common k →
        key_of_texts texts lengths name work ≡ Ok (record { offset = k.offset; width = k.width })
    -- nothing else is answered
    pub only :
        (c : KeyColumn) →
        key_of_texts texts lengths name work ≡ Ok c →
        IsSet texts lengths × ((k : Key) × Common k × (c.offset ≡ k.offset) × (c.width ≡ k.width))
