-- What is seen of cards, line by line: columns 8 to 72 of the lines with a blank indicator, at the same places, and
-- nothing else; and which indicator is refused.
-- Assumes nothing.
use Rattle.std.specs.Prelude.{ℕ, ◌+◌, ◌-◌, Bool, ◌&&◌, ◌||◌, not, Option, None, Some, List, [], ◌∷◌, ◌++◌, eqb, ltb, length, get_or, take, drop}
use Rattle.std.specs.Prelude.{replicate, if◌then◌else◌}
use Rattle.definition.specs.declared.Refusal.{Refusal}
use Rattle.definition.specs.Basic.{Answer, Err, Ok}

-- the lines of a text, which byte 10 parts
abbrev pub onto_first : ℕ → List (List ℕ) → List (List ℕ)
onto_first b [] = (b ∷ []) ∷ []
onto_first b (l ∷ ls) = (b ∷ l) ∷ ls

abbrev pub lines : List ℕ → List (List ℕ)
lines [] = [] ∷ []
lines (b ∷ bs) = if eqb b 10 then [] ∷ lines bs else onto_first b (lines bs)

-- lines joined again
abbrev pub join : List (List ℕ) → List ℕ
join [] = []
join (l ∷ []) = l
join (l ∷ m ∷ ls) = l ++ 10 ∷ join (m ∷ ls)

abbrev pub blanks : ℕ → List ℕ
blanks n = replicate n 32

-- what is seen of a line: column 7 is its byte of index 6
abbrev pub visible : List ℕ → List ℕ
visible line =
    if eqb (get_or line 6 0) 32 then blanks 7 ++ (take 65 (drop 7 line) ++ blanks (length line - 72))
    else blanks (length line)

-- a line has a column 7 that is none of blank, `*`, `/` and `D`; a carriage return that ends the line is no column
abbrev pub has_other : List ℕ → Bool
has_other line =
    let b = get_or line 6 0 in
    ltb 6 (length line)
    && not (eqb b 32 || eqb b 42 || eqb b 47 || eqb b 68 || eqb b 13 && eqb (length line) 7)

-- the position of the first such column, where the lines begin at byte p
abbrev pub first_other_of : ℕ → List (List ℕ) → Option ℕ
first_other_of p [] = None
first_other_of p (l ∷ ls) = if has_other l then Some (p + 6) else first_other_of (p + length l + 1) ls

abbrev pub refused_at : Option ℕ → Answer (Unit {0})
refused_at None = Ok tt
refused_at (Some p) = Err (Refusal.BadIndicator p)
