-- Cards: a copybook in COBOL reference format, and what a reader sees of it: free text of the same length, so that a
-- position in the one is that in the other.
-- Columns are bytes, counted from 1, and a line ends at byte 10. Columns 1 to 6 and those after 72 are ignored.
-- Column 7 is an indicator: byte 32 for code, `*` or `/` for a comment, `D` for a debugging line, which is dropped. A
-- carriage return that ends a line is no column. A line shorter than 7 columns is blank.
-- Departures from COBOL: no line continues another (51); `D` drops a line whatever the program says of debugging; a
-- tab is one column; in columns 8 to 72 the rules of free text hold, for a line whose first non-blank there is `*` too.
-- Assumes nothing.
use Rattle.std.specs.Prelude.{ℕ, ◌+◌, Bool, true, false, ◌&&◌, ◌||◌, not, List, [], ◌∷◌, eqb, leb, if◌then◌else◌}
use Rattle.std.specs.Prelude.{Option, None, Some}
use Rattle.definition.specs.declared.Form.{Form}
use Rattle.definition.specs.Basic.{among}

abbrev pub indicator_column : ℕ
indicator_column = 7

abbrev pub last_column : ℕ
last_column = 72

-- ---------------------------------------------------------------- what is read

-- the column of the byte after b, which stands in column n
abbrev pub column_next : ℕ → ℕ → ℕ
column_next n b = if eqb b 10 then 1 else n + 1

-- whether the byte after b stands on a line of code, behind its indicator
abbrev pub code_next : ℕ → Bool → ℕ → Bool
code_next n code b = if eqb n indicator_column then eqb b 32 else code && not (eqb b 10)

-- the byte b in column n is read: behind the indicator up to column 72, and at the end of a line
abbrev pub is_read : ℕ → Bool → ℕ → Bool
is_read n code b = code && leb n last_column || eqb b 10

-- what is ignored reads as a blank
abbrev pub shown : ℕ → Bool → ℕ → ℕ
shown n code b = if is_read n code b then b else 32

-- the bytes of a card text as the reader sees them, from column n on
unfoldable pub view_from : ℕ → Bool → List ℕ → List ℕ
view_from n code [] = []
view_from n code (b ∷ bs) = shown n code b ∷ view_from (column_next n b) (code_next n code b) bs

abbrev pub view : List ℕ → List ℕ
view cards = view_from 1 false cards

-- ---------------------------------------------------------------- indicators

-- a line ends before these bytes
abbrev pub line_ends : List ℕ → Bool
line_ends [] = true
line_ends (b ∷ bs) = eqb b 10

-- the byte b before bs is no column: it ends its line
abbrev pub no_column : ℕ → List ℕ → Bool
no_column b bs = eqb b 10 || eqb b 13 && line_ends bs

-- the byte b before bs, in the indicator's column, is none of the four
abbrev pub other_indicator : ℕ → List ℕ → Bool
other_indicator b bs = not (among " */D" b || no_column b bs)

-- the position of the first such indicator: p is that of the next byte, and n its column
unfoldable pub first_other : ℕ → ℕ → List ℕ → Option ℕ
first_other p n [] = None
first_other p n (b ∷ bs) =
    if eqb n indicator_column && other_indicator b bs then Some p else first_other (p + 1) (column_next n b) bs

-- ---------------------------------------------------------------- forms

-- what the reader sees of the text of a copybook, which is free text or cards
abbrev pub view_in : Form → List ℕ → List ℕ
view_in Form.FreeText text = text
view_in Form.Cards text = view text
