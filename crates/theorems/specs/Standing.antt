-- Where each entry of a listing stands, by the groups around it; its details, byte by byte; and that the first byte
-- there is where the owner finds it.
-- Assumes nothing.
use Rattle.std.specs.Prelude.{ℕ, zero, suc, ◌+◌, ◌/◌, ◌<◌, ◌≡◌, Option, None, Some, List, [], ◌∷◌, ◌++◌, length, replicate, if◌then◌else◌}
use Rattle.definition.specs.declared.Span.{Span}
use Rattle.definition.specs.declared.Digits.{Digits}
use Rattle.definition.specs.declared.SignWords.{SignWords}
use Rattle.definition.specs.declared.Statement.{Statement}
use Rattle.definition.specs.declared.Entry.{Entry}
use Rattle.definition.specs.declared.Owner.{Owner}
use Rattle.definition.specs.Basic.{Answer, Ok}
use Rattle.definition.specs.Fold.{Entries, end, entry, times}
use Rattle.theorems.specs.Chains.{four}

-- an entry, those below it, and the groups around it, the innermost first
pub record Standing : Type 0 where
  pub own : Entry
  pub below : Entries
  pub around : List Entry

-- the entries of a list in the order of the listing, a group before its members
abbrev pub standing : List Entry → Entries → List Standing
standing around end = []
standing around (entry e members later) =
    record { own = e; below = members; around = around } ∷ (standing (e ∷ around) members ++ standing around later)

-- how many are below
abbrev pub below# : Entries → ℕ
below# end = 0
below# (entry e members later) = suc (below# members + below# later)

-- offsets added up; the first byte in the record is that of its own and those of the groups around it
abbrev pub offsets : List Entry → ℕ
offsets [] = 0
offsets (e ∷ es) = e.offset + offsets es

abbrev pub first_byte : Standing → ℕ
first_byte x = x.own.offset + offsets x.around

-- ---------------------------------------------------------------- details

abbrev pub eight : ℕ → List ℕ
eight n = four n ++ four (n / 4294967296)

abbrev pub place : Span → List ℕ
place w = four w.start ++ four w.len

-- of numbers, edited ones included, digits, those after the point and 1 for a sign, 1 byte each, and 0 for others
abbrev pub of_digits : Option Digits → List ℕ
of_digits None = 0 ∷ 0 ∷ 0 ∷ []
of_digits (Some d) = d.precision ∷ d.scale ∷ (if d.signed then 1 else 0) ∷ []

-- what SIGN says: 0 nothing, 1 TRAILING or neither word, 2 LEADING, 3 and 4 the same with SEPARATE
abbrev pub of_sign : Option SignWords → ℕ
of_sign None = 0
of_sign (Some w) = if w.separate then (if w.leading then 4 else 3) else if w.leading then 2 else 1

-- the position of the statement, 4 bytes; its level, how many groups are around it, and 1 for a group made by folding,
-- 1 byte each; the entries below, 4; the first byte in the record, 8; slack before it, 4; picture, REDEFINES and
-- DEPENDING ON as the statement has them, start and length, 4 each; slack at the end of each occurrence, 4; digits, 3;
-- the word of its usage, 8; SIGN, 1
abbrev pub row : Standing → List ℕ
row x =
    let e = x.own in
    four e.at
    ++ (e.level ∷ length x.around ∷ (if e.folded then 1 else 0) ∷ four (below# x.below))
    ++ eight (first_byte x)
    ++ four e.slack
    ++ place e.picture
    ++ place e.over
    ++ place e.depending
    ++ four e.slack_at_end
    ++ of_digits e.digits
    ++ place e.usage
    ++ (of_sign e.sign ∷ [])

-- before the rows: the position, 4 bytes, and the level, 1, of the statement of the root that was dropped, and its name,
-- 8, or 13 times 0 for none; and how many entries there are, 4
abbrev pub head : Option Statement → Entries → List ℕ
head None es = replicate 13 0 ++ four (below# es)
head (Some s) es = four s.at ++ (s.level ∷ place s.name) ++ four (below# es)

abbrev pub all_rows : List Standing → List ℕ
all_rows [] = []
all_rows (x ∷ xs) = row x ++ all_rows xs

-- ---------------------------------------------------------------- owners

abbrev pub nth : ℕ → List Standing → Option Standing
nth n [] = None
nth zero (x ∷ xs) = Some x
nth (suc n) (x ∷ xs) = nth n xs

-- each stands at least once
abbrev pub AtLeastOnce : List Entry → Type 0
AtLeastOnce [] = Unit {0}
AtLeastOnce (e ∷ es) = (0 < times e.occurs) × AtLeastOnce es

-- the bytes of the first occurrence of the elementary entry of number n are its piece, from its first byte on
abbrev pub FirstOwned : (ℕ → Answer Owner) → Entries → Type 0
FirstOwned owner es =
    (n : ℕ) (x : Standing) → nth n (standing [] es) ≡ Some x → x.below ≡ end → AtLeastOnce (x.own ∷ x.around) →
    (q : ℕ) → q < x.own.width → owner (first_byte x + q) ≡ Ok (Owner.Piece n (first_byte x) q)
