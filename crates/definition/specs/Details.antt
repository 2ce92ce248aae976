-- The details of the listing's entries, an answer of our own: what the listing does not show of them. A head of 17
-- bytes, then 63 for each entry, in the order of the listing. Numbers are little-endian, 4 bytes unless said.
-- Assumes nothing.
use Rattle.std.specs.Prelude.{ℕ, suc, ◌+◌, ◌*◌, max, ◌≡◌, true, false, List, [], ◌∷◌, ◌++◌, ltb, replicate, if◌then◌else◌}
use Rattle.std.specs.Prelude.{Option, None, Some}
use Rattle.definition.specs.declared.Digits.{Digits}
use Rattle.definition.specs.declared.SignWords.{SignWords}
use Rattle.definition.specs.declared.Statement.{Statement}
use Rattle.definition.specs.declared.Entry.{Entry}
use Rattle.definition.specs.Basic.{is_given, le4, le8}
use Rattle.definition.specs.Fold.{Entries, end, entry}
use Rattle.definition.specs.Layout.{advance}
use Rattle.definition.specs.Listing.{flag, span_bytes}
use Rattle.definition.specs.Search.{entries#}

-- an entry, how deep it stands, how many entries stand below it, and its first byte in the record
pub record Detail : Type 0 where
  pub own : Entry
  pub depth : ℕ
  pub below : ℕ
  pub first : ℕ

abbrev pub detail : Entry → ℕ → ℕ → ℕ → Detail
detail e depth below first = record { own = e; depth = depth; below = below; first = first }

-- the entries of a list at a depth, which starts at the byte `start` of the record, a group before its members. An
-- entry's first byte is its offset after that, and there the list of its members starts
unfoldable pub details_in : ℕ → ℕ → Entries → List Detail
details_in depth start end = []
details_in depth start (entry e members later) =
    let first = start + e.offset in
    detail e depth (entries# members) first ∷ (details_in (depth + 1) first members ++ details_in depth start later)

-- digits, those after the point and whether the picture has a sign, 1 byte each; 0, 0, 0 where there are none
abbrev pub digits_bytes : Option Digits → List ℕ
digits_bytes None = 0 ∷ 0 ∷ 0 ∷ []
digits_bytes (Some d) = d.precision ∷ d.scale ∷ flag d.signed ∷ []

-- 0 where there is no SIGN; 1 for TRAILING or neither word, 2 for LEADING, 3 and 4 the same with SEPARATE
abbrev pub sign_words_byte : Option SignWords → ℕ
sign_words_byte None = 0
sign_words_byte (Some w) = 1 + flag w.leading + 2 * flag w.separate

-- the position of the statement; its level, the depth, and 1 for a group made by folding, 1 byte each; the number of
-- entries below; the first byte in the record, 8 bytes; the slack bytes directly before; picture, REDEFINES and
-- DEPENDING ON as the statement has them, start and length; the slack bytes at the end of each occurrence; digits; the
-- word that names the usage that holds, start and length; and SIGN, 1 byte. A group made by folding has no clauses
unfoldable pub detail_bytes : Detail → List ℕ
detail_bytes x =
    let e = x.own in
    le4 e.at ++ (e.level ∷ x.depth ∷ flag e.folded ∷ le4 x.below) ++ le8 x.first ++ le4 e.slack
    ++ span_bytes e.picture ++ span_bytes e.over ++ span_bytes e.depending
    ++ le4 e.slack_at_end ++ digits_bytes e.digits ++ span_bytes e.usage ++ (sign_words_byte e.sign ∷ [])

unfoldable pub details_bytes : List Detail → List ℕ
details_bytes [] = []
details_bytes (x ∷ xs) = detail_bytes x ++ details_bytes xs

-- the dropped root: the position of its statement, its level, 1 byte, its name, start and length; 0 where none is
abbrev pub root_bytes : Option Statement → List ℕ
root_bytes None = replicate 13 0
root_bytes (Some s) = le4 s.at ++ (s.level ∷ span_bytes s.name)

-- of a listing: the dropped root, and the number of entries; then the entries
unfoldable pub listing_details : Option Statement → Entries → List ℕ
listing_details root es = root_bytes root ++ le4 (entries# es) ++ details_bytes (details_in 0 0 es)

-- ---------------------------------------------------------------- what holds of them (`DetailLaws`, of the proofs)

-- the group around a row of that depth, by the rows before it, the latest first: the latest that is less deep
unfoldable pub group_around : ℕ → List Detail → Option Detail
group_around depth [] = None
group_around depth (g ∷ before) = if ltb g.depth depth then Some g else group_around depth before

-- the first byte of a group, and 0 for the record
abbrev pub first_of : Option Detail → ℕ
first_of None = 0
first_of (Some g) = g.first

-- the first byte of a member is its group's plus its offset, and that of an entry at the top is its offset
abbrev pub FirstBytes : List Detail → List Detail → Type 0
FirstBytes before [] = Unit {0}
FirstBytes before (x ∷ xs) =
    (x.first ≡ first_of (group_around x.depth before) + x.own.offset) × FirstBytes (x ∷ before) xs

-- how many lists deep a list is, itself included: for a listing at most 130, so a depth takes one byte
abbrev pub height : Entries → ℕ
height end = 0
height (entry e members later) = max (suc (height members)) (height later)

-- before folding: a redefiner has no slack; any other item stands after its slack, which begins where the latest
-- earlier item of its list without REDEFINES ends, or where its list does
abbrev pub Following : ℕ → Entries → Type 0
Following cursor end = Unit {0}
Following cursor (entry e members later) =
    (is_given e.redefines ≡ true → e.slack ≡ 0)
    × (is_given e.redefines ≡ false → e.offset ≡ cursor + e.slack)
    × Following 0 members
    × Following (advance cursor e) later
