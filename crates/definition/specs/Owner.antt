-- The owner rule: which piece of a record each byte belongs to. It uses the kept statements, the widths of elementary
-- items and the alignments, and no offset. The record is laid from place 0, list by list and item by item in copybook
-- order, each occurrence at its own place in the record. An elementary SYNC binary or float item first lays slack: the
-- smallest number of bytes, 0 included, that brings its place to a multiple of its width. Then each item is laid count
-- times: an elementary item as one piece of its width, a group as its whole list, slack and all; and at the end of each
-- occurrence of a group with OCCURS that holds such an item, the smallest number of bytes that brings its width to a
-- multiple of the largest alignment in it. With OCCURS 0 no piece is laid, but the slack before it stays.
-- Assumes nothing.
use Rattle.std.specs.Prelude.{ℕ, zero, suc, ◌+◌, ◌-◌, Bool, false, ◌||◌, Option, None, Some, List, [], ◌∷◌, ◌++◌, ltb, take, drop, if◌then◌else◌}
use Rattle.definition.specs.declared.Statement.{Statement}
use Rattle.definition.specs.declared.Owner.{Owner}
use Rattle.definition.specs.Basic.{is_given, fewest}
use Rattle.definition.specs.Tree.{Forest, leaf, item}
use Rattle.definition.specs.Storage.{storage, place_alignment, width_alignment}
use Rattle.definition.specs.Fold.{times}

-- ---------------------------------------------------------------- pieces

-- whose bytes they are: one occurrence of the elementary item whose entry has that number, or the slack before that
-- entry, or at the end of an occurrence of that group
pub data Holder : Type 0 where
  occurrence : ℕ → Holder
  slack : ℕ → Holder

-- so many bytes, laid at once
pub record Piece : Type 0 where
  pub holder : Holder
  pub width : ℕ

abbrev pub piece : Holder → ℕ → Piece
piece h w = record { holder = h; width = w }

-- so many bytes of slack of an entry, where there are any
abbrev pub slack_piece : ℕ → ℕ → List Piece
slack_piece k zero = []
slack_piece k (suc n) = piece (slack k) (suc n) ∷ []

-- the bytes of pieces
abbrev pub extent : List Piece → ℕ
extent [] = 0
extent (p ∷ ps) = p.width + extent ps

-- pieces from a place on, and what follows from the place that they reach: each byte laid moves the place by one
abbrev pub onward : ℕ → List Piece → (ℕ → List Piece) → List Piece
onward place ps more = ps ++ more (place + extent ps)

-- n occurrences, each laid at its own place
abbrev pub repeated : ℕ → ℕ → (ℕ → List Piece) → List Piece
repeated zero place one = []
repeated (suc n) place one = onward place (one place) (λ p. repeated n p one)

-- ---------------------------------------------------------------- laying

-- how many entries a list has, with those below them
abbrev pub size : Forest → ℕ
size leaf = 0
size (item s kids later) = suc (size kids + size later)

-- the slack before an item whose entry has number k, at a place in the record
abbrev pub slack_before : List ℕ → ℕ → ℕ → Statement → Forest → List Piece
slack_before text k place s kids = slack_piece k (fewest (place_alignment text s kids) place)

-- the slack at the end of an occurrence whose list is so long
abbrev pub slack_after : List ℕ → ℕ → Statement → Forest → ℕ → List Piece
slack_after text k s kids long = slack_piece k (fewest (width_alignment text s kids) long)

-- one occurrence of an item at a place: an elementary one is a piece, a group its whole list, laid there, and the slack
-- at its end
abbrev pub once : List ℕ → ℕ → Statement → Forest → (ℕ → List Piece) → ℕ → List Piece
once text k s leaf list place = piece (occurrence k) (storage text s).width ∷ []
once text k s (item t kids later) list place = onward 0 (list place) (slack_after text k s (item t kids later))

-- an item at a place: its slack, then each occurrence
abbrev pub laid_item : List ℕ → ℕ → ℕ → Statement → Forest → (ℕ → List Piece) → List Piece
laid_item text k place s kids list =
    onward place (slack_before text k place s kids) (λ p. repeated (times s.clauses.occurs) p (once text k s kids list))

-- a sibling list from a place in the record on, whose first item has the entry number k
unfoldable pub laid : List ℕ → ℕ → ℕ → Forest → List Piece
laid text k place leaf = []
laid text k place (item s kids later) =
    onward place (laid_item text k place s kids (λ p. laid text (suc k) p kids))
    (λ p. laid text (suc k + size kids) p later)

-- the record is the top list so laid
abbrev pub pieces : List ℕ → Forest → List Piece
pieces text f = laid text 0 0 f

-- ---------------------------------------------------------------- the owner of a byte

-- what a piece answers, where `first` bytes are laid before it and `place` bytes of it before the byte
abbrev pub answer : Holder → ℕ → ℕ → Owner
answer (occurrence k) first place = Owner.Piece k first place
answer (slack k) first place = Owner.Slack k

-- the owner of the byte before which q bytes of the pieces are laid, and `first` bytes before the pieces; none where the
-- pieces end before it
unfoldable pub owner_from : ℕ → List Piece → ℕ → Option Owner
owner_from first [] q = None
owner_from first (p ∷ ps) q =
    if ltb q p.width then Some (answer p.holder first q) else owner_from (first + p.width) ps (q - p.width)

-- a byte's owner is the piece or slack that laid it
abbrev pub owner_of : List Piece → ℕ → Option Owner
owner_of ps q = owner_from 0 ps q

-- some statement, at any depth, has a REDEFINES or a DEPENDING ON
unfoldable pub overlaid : Forest → Bool
overlaid leaf = false
overlaid (item s kids later) =
    is_given s.clauses.redefines || is_given s.clauses.depending || overlaid kids || overlaid later

-- ---------------------------------------------------------------- records

-- a record cut into the parts that the pieces lay, and parts joined again
abbrev pub cut : List Piece → List ℕ → List (List ℕ)
cut [] bs = []
cut (p ∷ ps) bs = take p.width bs ∷ cut ps (drop p.width bs)

abbrev pub join : List (List ℕ) → List ℕ
join [] = []
join (b ∷ bs) = b ++ join bs
