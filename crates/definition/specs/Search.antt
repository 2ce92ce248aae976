-- The owner of a byte, found among the entries of a listing with no piece laid: by a search through the tree of
-- entries, and by a walk over their rows. (`Seek` and `Walk`, of the proofs, say that both find the owner that the laid
-- pieces have.)
-- Assumes nothing.
use Rattle.std.specs.Prelude.{ℕ, zero, suc, ◌+◌, ◌*◌, ◌-◌, ◌/◌, ◌%◌, Option, None, Some, List, [], ◌∷◌, ◌++◌, eqb, ltb, if◌then◌else◌}
use Rattle.definition.specs.declared.Entry.{Entry}
use Rattle.definition.specs.declared.Owner.{Owner}
use Rattle.definition.specs.Fold.{Entries, end, entry, times, total}

-- how many entries a list has, with those below them
abbrev pub entries# : Entries → ℕ
entries# end = 0
entries# (entry e members later) = suc (entries# members + entries# later)

-- the first byte of the occurrence that the place q of a list falls into, where the list starts at the byte `first`;
-- and the place in it
abbrev pub start_in : ℕ → Entry → ℕ → ℕ
start_in first e q = first + e.offset + (q - e.offset) / e.width * e.width

abbrev pub place_in : Entry → ℕ → ℕ
place_in e q = (q - e.offset) % e.width

-- in an occurrence that starts at the byte `first`: what stands behind its list is its slack; before that an elementary
-- entry is one piece, and in a group it is what was found among its members
abbrev pub listed : ℕ → ℕ → ℕ → Entries → Option Owner → Option Owner
listed k first place end found = Some (Owner.Piece k first place)
listed k first place (entry e members later) found = found

abbrev pub inside : ℕ → ℕ → Entry → ℕ → Entries → Option Owner → Option Owner
inside k first e place members found =
    if ltb (place + e.slack_at_end) e.width then listed k first place members found else Some (Owner.Slack k)

-- the owner of the byte at place q of a list of entries, whose first has number k, and which starts at the byte `first`
-- of the record: what stands before an entry's offset, and after the earlier items, is its slack; in an entry, a
-- division finds the occurrence
unfoldable pub seek : ℕ → ℕ → Entries → ℕ → Option Owner
seek k first end q = None
seek k first (entry e members later) q =
    let start = start_in first e q in
    let place = place_in e q in
    if ltb q e.offset then Some (Owner.Slack k)
    else if ltb q (e.offset + total e) then inside k start e place members (seek (suc k) start members place)
    else seek (suc k + entries# members) first later q

-- ---------------------------------------------------------------- rows

-- what the search needs of an entry, with the number of entries below it
pub record Row : Type 0 where
  pub offset : ℕ
  pub width : ℕ
  pub slack_at_end : ℕ
  pub count : ℕ
  pub below : ℕ

abbrev pub row_of_entry : Entry → ℕ → Row
row_of_entry e below =
    record { offset = e.offset; width = e.width; slack_at_end = e.slack_at_end; count = times e.occurs; below = below }

-- the entries in the order of the listing
unfoldable pub rows : Entries → List Row
rows end = []
rows (entry e members later) = row_of_entry e (entries# members) ∷ (rows members ++ rows later)

-- the search as a walk from row to row: `skip` rows are passed over
unfoldable pub walk : ℕ → ℕ → ℕ → List Row → ℕ → Option Owner
walk skip k first [] q = None
walk (suc skip) k first (r ∷ rs) q = walk skip (suc k) first rs q
walk zero k first (r ∷ rs) q =
    let start = first + r.offset + (q - r.offset) / r.width * r.width in
    let place = (q - r.offset) % r.width in
    if ltb q r.offset then Some (Owner.Slack k)
    else if ltb q (r.offset + r.width * r.count)
    then (if ltb (place + r.slack_at_end) r.width
    then (if eqb r.below 0 then Some (Owner.Piece k start place) else walk zero (suc k) start rs place)
    else Some (Owner.Slack k))
    else walk r.below (suc k) first rs q
