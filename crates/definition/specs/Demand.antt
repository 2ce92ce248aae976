-- Every byte has one owner, as one statement (`demand3`, of the proofs, keeps it): what holds of every accepted
-- copybook, free text or cards, without REDEFINES and DEPENDING ON, a dropped root's own clauses aside. It is said by the
-- statements and the listing: nobody has to read how pieces are laid or searched.
-- Assumes nothing.
use Rattle.std.specs.Prelude.{ℕ, zero, suc, ◌+◌, ◌*◌, ◌-◌, ◌%◌, ◌≤◌, ◌<◌, max, ◌≡◌, true, false, List, [], ◌∷◌, ◌++◌, ◌⊎◌, length, map}
use Rattle.definition.specs.declared.Span.{Span}
use Rattle.definition.specs.declared.Entry.{Entry}
use Rattle.definition.specs.declared.Owner.{Owner}
use Rattle.definition.specs.declared.Refusal.{Refusal}
use Rattle.definition.specs.Basic.{Err, span, part, Answer, Ok}
use Rattle.definition.specs.Tree.{Forest, leaf, item}
use Rattle.definition.specs.Storage.{place_alignment, width_alignment}
use Rattle.definition.specs.Fold.{Entries, end, entry, times, total}
use Rattle.definition.specs.Layout.{entry_of}
use Rattle.definition.specs.Record.{record_length, layout}
use Rattle.definition.specs.Owner.{Holder, occurrence, slack, Piece, extent, pieces, overlaid, cut, join}
use Rattle.definition.specs.Placed.{content_of}
use Rattle.definition.specs.Search.{entries#}
use Rattle.definition.specs.Cards.{view_in}
use Rattle.definition.specs.declared.Form.{Form}
use Rattle.definition.specs.Calls.{record_fields, asked, owner_in, called}

-- ---------------------------------------------------------------- offsets and widths

-- n is the smallest number of bytes that brings the place to a multiple of the alignment; alignment 1 takes none
pub record Fewest (alignment place n : ℕ) : Type 0 where
  pub small : n < alignment
  pub reaches : (place + n) % alignment ≡ 0
  pub least : (m : ℕ) → (place + m) % alignment ≡ 0 → n ≤ m

-- the entries tell the items of a list that starts at the byte `base` of the record, of which `reached` bytes are
-- taken: one entry for each item, in copybook order; its name, count and clauses are the statement's; an elementary item
-- is as wide as its picture says, a group as its list and the slack at its end. The slack before an item is the fewest
-- bytes that bring its place in the record to a multiple of its alignment, the slack at the end of an occurrence those
-- that bring its width to one. Count times its width is taken. A group's members are told so at the place of each of
-- its occurrences, and at its own where it has none
abbrev pub Tells : List ℕ → ℕ → ℕ → Forest → Entries → Type 0
Tells text base reached leaf end = Unit {0}
Tells text base reached (item s kids later) (entry e members others) =
    let c = content_of text s kids in
    let long = record_length members in
    (e ≡ entry_of s c e.offset e.slack long e.slack_at_end)
    × (e.offset ≡ reached + e.slack)
    × Fewest (place_alignment text s kids) (base + reached) e.slack
    × Fewest (width_alignment text s kids) (c.width + long) e.slack_at_end
    × ((i : ℕ) → i < max 1 (times e.occurs) → Tells text (base + e.offset + i * e.width) 0 kids members)
    × Tells text base (e.offset + total e) later others
Tells text base reached leaf (entry e members others) = ⊥
Tells text base reached (item s kids later) end = ⊥

-- ---------------------------------------------------------------- what stands where

-- bytes of the record: whose, from which byte on, and how many
pub record Spot : Type 0 where
  pub holder : Holder
  pub first : ℕ
  pub width : ℕ

abbrev pub spot : Holder → ℕ → ℕ → Spot
spot h first width = record { holder = h; first = first; width = width }

abbrev pub width_of : Spot → ℕ
width_of x = x.width

-- slack, where there is some
abbrev pub gap : ℕ → ℕ → ℕ → List Spot
gap k first zero = []
gap k first (suc n) = spot (slack k) first (suc n) ∷ []

-- n occurrences of so many bytes, from the byte `first` on
abbrev pub each : ℕ → ℕ → ℕ → (ℕ → List Spot) → List Spot
each zero first width one = []
each (suc n) first width one = one first ++ each n (first + width) width one

-- one occurrence of an entry that has number k: of an elementary one, or of a group, whose members are told, and then
-- the slack at its end
abbrev pub single : ℕ → Entry → Entries → ℕ → List Spot → List Spot
single k e end first inner = spot (occurrence k) first e.width ∷ []
single k e (entry m ms later) first inner = inner ++ gap k (first + (e.width - e.slack_at_end)) e.slack_at_end

-- what a listing says of the record, in copybook order: the slack before each entry and each of its occurrences. The
-- first entry of the list has number k, and the list starts at the byte `base`
unfoldable pub spots_of : ℕ → ℕ → Entries → List Spot
spots_of k base end = []
spots_of k base (entry e members later) =
    gap k (base + (e.offset - e.slack)) e.slack
    ++ each (times e.occurs) (base + e.offset) e.width (λ first. single k e members first (spots_of (suc k) first members))
    ++ spots_of (suc k + entries# members) base later

-- what pieces lay from the byte `first` on
abbrev pub spots : ℕ → List Piece → List Spot
spots first [] = []
spots first (p ∷ ps) = spot p.holder first p.width ∷ spots (first + p.width) ps

-- the record's bytes at each
abbrev pub parts : List Spot → List ℕ → List (List ℕ)
parts [] bs = []
parts (x ∷ xs) bs = part bs (span x.first x.width) ∷ parts xs bs

-- ---------------------------------------------------------------- one owner

abbrev pub Among : {A : Type 0} → A → List A → Type 0
Among x [] = ⊥
Among x (y ∷ ys) = (x ≡ y) ⊎ Among x ys

-- the byte q stands there
pub record Has (x : Spot) (q : ℕ) : Type 0 where
  pub starts : x.first ≤ q
  pub ends : q < x.first + x.width

-- exactly one of them has the byte
pub record One (xs : List Spot) (q : ℕ) : Type 0 where
  pub owner : Spot
  pub listed : Among owner xs
  pub has : Has owner q
  pub only : (y : Spot) → Among y xs → Has y q → y ≡ owner

-- the answer that names it: a piece by its entry, its first byte and the byte's place in it, slack by the entry that it
-- precedes, or by the group at whose end it is
abbrev pub naming : Holder → ℕ → ℕ → Owner
naming (occurrence k) first q = Owner.Piece k first (q - first)
naming (slack k) first q = Owner.Slack k

-- ---------------------------------------------------------------- places in the text

-- what holds of the places that an entry names
pub record EntrySpans (P : Span → Type 0) (e : Entry) : Type 0 where
  pub name : P e.name
  pub picture : P e.picture
  pub usage : P e.usage
  pub depending : P e.depending
  pub redefines : P e.redefines
  pub over : P e.over

abbrev pub EachSpan : (Span → Type 0) → Entries → Type 0
EachSpan P end = Unit {0}
EachSpan P (entry e members later) = EntrySpans P e × EachSpan P members × EachSpan P later

-- ---------------------------------------------------------------- the demand

-- the byte owner of a copybook of this form
abbrev pub owner_on : Form → List ℕ → ℕ → ℕ → Answer Owner
owner_on form text work q = called form (λ t. asked (owner_in q) t work) text work

-- text is what the reader sees, f are the fields of the record, es the entries of its listing, and the byte owner
-- answers with `owner`
pub record Demand (text : List ℕ) (owner : ℕ → Answer Owner) (f : Forest) (es : Entries) : Type 0 where
  -- the listing tells the items; slack stands only before an elementary SYNC binary or float item, one with OCCURS 0
  -- included, or at the end of an occurrence of a group with OCCURS that holds such an item; each time it is the fewest
  -- bytes, at that occurrence's own place in the record
  pub items : Tells text 0 0 f es
  -- the record is, in copybook order, one piece for each occurrence of each elementary item, where the listing says,
  -- and that slack,
  pub in_order : spots 0 (pieces text f) ≡ spots_of 0 0 es
  -- with nothing left over
  pub covered : extent (pieces text f) ≡ record_length es
  -- every byte below the record length has exactly one owner,
  pub one-owner : (q : ℕ) → q < record_length es → One (spots_of 0 0 es) q
  -- and the byte owner call names it
  pub named :
      (q : ℕ) (l : q < record_length es) →
      let x = (one-owner q l).owner in
      owner q ≡ Ok (naming x.holder x.first q)
  -- a record is cut into the bytes that stand at each of these, one part for each, and as wide;
  pub cuts : (bs : List ℕ) → length bs ≡ record_length es → cut (pieces text f) bs ≡ parts (spots_of 0 0 es) bs
  pub widths :
      (bs : List ℕ) →
      length bs ≡ record_length es →
      map length (cut (pieces text f) bs) ≡ map width_of (spots_of 0 0 es)
  -- cut so, and joined again, it is itself,
  pub whole : (bs : List ℕ) → length bs ≡ record_length es → join (cut (pieces text f) bs) ≡ bs
  -- so that two records never give the same parts
  pub apart :
      (bs cs : List ℕ) →
      length bs ≡ record_length es →
      length cs ≡ record_length es →
      cut (pieces text f) bs ≡ cut (pieces text f) cs →
      bs ≡ cs

-- what holds of every accepted copybook: the reader finds the fields of its record in what it sees, and the layout
-- their entries; what an entry names stands so in the copybook's own text; the demand is kept, and the byte owner
-- refuses each position not below the record length, unless a kept statement, a dropped root aside, has a REDEFINES or a
-- DEPENDING ON; then it refuses every position
pub record Kept (form : Form) (text : List ℕ) (work : ℕ) (es : Entries) : Type 0 where
  pub of : Forest
  pub read : record_fields (view_in form text) work ≡ Ok of
  pub laid_out : layout (view_in form text) of ≡ Ok es
  pub spelt : EachSpan (λ w. part (view_in form text) w ≡ part text w) es
  pub demand : overlaid of ≡ false → Demand (view_in form text) (owner_on form text work) of es
  pub outside : overlaid of ≡ false → (q : ℕ) → record_length es ≤ q → owner_on form text work q ≡ Err Refusal.OutsideRecord
  pub refuses : overlaid of ≡ true → (q : ℕ) → owner_on form text work q ≡ Err Refusal.Overlaid
