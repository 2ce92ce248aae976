-- How answers become numbers for C: the number that a call returns, and the numbers that it writes to the lent
-- `answer`. Every call writes as many numbers as its definition here has, 2, 4 or 7, whatever it answers; where
-- `answer` has fewer, it keeps its values.
-- Assumes nothing.
use Rattle.std.specs.Prelude.{ℕ, ◌≡◌, ◌-◌, Bool, not, List, [], ◌∷◌, ◌++◌, eqb, ltb, length, drop, replicate, if◌then◌else◌}
use Rattle.definition.specs.declared.Pictured.{Pictured}
use Rattle.definition.specs.declared.Owner.{Owner}
use Rattle.definition.specs.declared.Extract.{Extract}
use Rattle.definition.specs.declared.KeyColumn.{KeyColumn}
use Rattle.definition.specs.Basic.{Answer, Err, Ok}
use Rattle.definition.specs.Refusals.{refusal_number, refusal_position, refusal_needed}
use Rattle.definition.specs.Listing.{kind_byte}
use Rattle.definition.specs.Calls.{After}
use Rattle.rows.specs.declared.kinds.KindNumbers.{KindNumbers}
use Rattle.rows.specs.Kinds.{numbers_of}

-- ---------------------------------------------------------------- what comes in

-- a usage above 2, or a sign above 4, is none
abbrev pub no_usage : ℕ → Bool
no_usage n = ltb 2 n

abbrev pub no_sign : ℕ → Bool
no_sign n = ltb 4 n

-- a mark: 0 is no, any other number yes
abbrev pub flagged : ℕ → Bool
flagged n = not (eqb n 0)

-- ---------------------------------------------------------------- what goes out

-- the returned number: 0, or that of the refusal
abbrev pub returned : {A : Type 0} → Answer A → ℕ
returned (Err r) = refusal_number r
returned (Ok a) = 0

-- so many numbers of an answer: those of what it gives; or position, needed length and zeros
abbrev pub answer_numbers : {A : Type 0} → ℕ → (A → List ℕ) → Answer A → List ℕ
answer_numbers n numbers (Err r) = refusal_position r ∷ refusal_needed r ∷ replicate (n - 2) 0
answer_numbers n numbers (Ok a) = numbers a

-- the two numbers of a call that writes bytes: how many, and 0
abbrev pub count_numbers : ℕ → List ℕ
count_numbers n = n ∷ 0 ∷ []

abbrev pub writing_numbers : Answer ℕ → List ℕ
writing_numbers = answer_numbers 2 count_numbers

-- signed, sign, precision, scale and storage
abbrev pub kind_parts : KindNumbers → List ℕ
kind_parts k = k.signed ∷ k.sign ∷ k.precision ∷ k.scale ∷ k.storage ∷ []

-- the seven numbers of a picture: kind, width and those of the kind
abbrev pub pictured_numbers : Pictured → List ℕ
pictured_numbers p = kind_byte p.kind ∷ p.width ∷ kind_parts (numbers_of p.kind)

abbrev pub picture_numbers : Answer Pictured → List ℕ
picture_numbers = answer_numbers 7 pictured_numbers

-- the four numbers of a byte's owner: 0, the entry's number, the piece's first byte and the place inside it; or 1 and
-- the number of the entry that the slack precedes, or of the group at whose end it stands
abbrev pub owned_numbers : Owner → List ℕ
owned_numbers (Owner.Piece entry first place) = 0 ∷ entry ∷ first ∷ place ∷ []
owned_numbers (Owner.Slack entry) = 1 ∷ entry ∷ 0 ∷ 0 ∷ []

abbrev pub owner_numbers : Answer Owner → List ℕ
owner_numbers = answer_numbers 4 owned_numbers

-- the four numbers of an extract: the subset's number, its weight, how many were looked at and how far off it is at
-- most
abbrev pub chosen_numbers : Extract → List ℕ
chosen_numbers a = a.subset ∷ a.weight ∷ a.examined ∷ a.off ∷ []

abbrev pub extract_numbers : Answer Extract → List ℕ
extract_numbers = answer_numbers 4 chosen_numbers

-- the two numbers of a key: offset and width
abbrev pub column_numbers : KeyColumn → List ℕ
column_numbers k = k.offset ∷ k.width ∷ []

abbrev pub key_numbers : Answer KeyColumn → List ℕ
key_numbers = answer_numbers 2 column_numbers

-- the lent `answer` after a call that writes these numbers to it
unfoldable pub answered : List ℕ → List ℕ → List ℕ
answered numbers answer =
    if ltb (length answer) (length numbers) then answer else numbers ++ drop (length numbers) answer

-- ---------------------------------------------------------------- a call

-- what C is handed of a call: the number that it returns, the numbers in the lent `answer`, and output and work memory
-- as the call leaves them
pub record IsHandedOn {A : Type 0} (numbers : Answer A → List ℕ) (call : After A) (answer : List ℕ)
    (value : ℕ) (answer' output' work' : List ℕ) : Type 0 where
  pub value_is : value ≡ returned call.answer
  pub answer_after : answer' ≡ answered (numbers call.answer) answer
  pub output_after : output' ≡ call.output
  pub work_after : work' ≡ call.work
