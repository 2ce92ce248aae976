-- Bytes, numbers, spans and answers: the small words of every stage. A text is the list of its bytes, and a byte is a
-- number below 256.
-- Assumes nothing.
use Rattle.std.specs.Prelude.{if◌then◌else◌, ℕ, ◌+◌, ◌*◌, ◌-◌, ◌/◌, ◌%◌, Bool, true, false, ◌&&◌, ◌||◌, List, [], ◌∷◌, ◌++◌, map, eqb, leb, ltb, take, drop}
use Prim.Native.Char.{Char, code}
use Prim.Native.String.{String, [] as ε, ◌∷◌ as ◌∷ᶜ◌}
use Rattle.std.specs.Prelude.{Option, None, Some, Result}
pub use Rattle.std.specs.Prelude.{Ok, Err}
use Rattle.definition.specs.declared.Refusal.{Refusal}
use Rattle.definition.specs.declared.Span.{Span}

-- ---------------------------------------------------------------- tests

-- the bytes of a quoted text
abbrev pub bytes : String → List ℕ
bytes ε = []
bytes (c ∷ᶜ s) = code c ∷ bytes s

-- the byte is this character
abbrev pub is : Char → ℕ → Bool
is c b = eqb b (code c)

-- the byte is one of the text's
abbrev pub among : String → ℕ → Bool
among ε b = false
among (c ∷ᶜ s) b = is c b || among s b

-- the bytes begin with this character
abbrev pub starts : Char → List ℕ → Bool
starts c [] = false
starts c (b ∷ bs) = is c b

-- white space: bytes 9 to 13 and 32
abbrev pub white : ℕ → Bool
white b = eqb b 32 || leb 9 b && leb b 13

-- two lists have the same bytes
unfoldable pub same : List ℕ → List ℕ → Bool
same [] [] = true
same [] (y ∷ ys) = false
same (x ∷ xs) [] = false
same (x ∷ xs) (y ∷ ys) = eqb x y && same xs ys

-- letter case does not count
abbrev pub upper : ℕ → ℕ
upper b = if leb 97 b && leb b 122 then b - 32 else b

abbrev pub uppers : List ℕ → List ℕ
uppers bs = map upper bs

-- ---------------------------------------------------------------- spans

abbrev pub span : ℕ → ℕ → Span
span s n = record { start = s; len = n }

abbrev pub absent : Span
absent = span 0 0

abbrev pub is_given : Span → Bool
is_given w = ltb 0 w.len

-- the bytes that a span has in the text
abbrev pub part : List ℕ → Span → List ℕ
part text w = take w.len (drop w.start text)

-- ---------------------------------------------------------------- numbers

-- the number that digits spell, after n was read
unfoldable pub digits : ℕ → List ℕ → Option ℕ
digits n [] = Some n
digits n (b ∷ bs) = if leb 48 b && leb b 57 then digits (n * 10 + (b - 48)) bs else None

-- at least one digit
abbrev pub numeral : List ℕ → Option ℕ
numeral [] = None
numeral (b ∷ bs) = digits 0 (b ∷ bs)

abbrev pub below : ℕ → Option ℕ → Option ℕ
below limit None = None
below limit (Some n) = if ltb n limit then Some n else None

-- digits, leading zeros allowed, with a plus in front or none, that spell a number below the limit
unfoldable pub number : ℕ → List ℕ → Option ℕ
number limit [] = None
number limit (b ∷ bs) = below limit (if is "+" b then numeral bs else numeral (b ∷ bs))

-- a count, of an OCCURS or in a picture, is below 2^64
abbrev pub count : List ℕ → Option ℕ
count = number 18446744073709551616

-- the fewest bytes that bring a place, or a width, to a multiple of the alignment (`Alignment`, of the proofs, says so)
abbrev pub fewest : ℕ → ℕ → ℕ
fewest alignment place = (alignment - place % alignment) % alignment

-- little-endian in four bytes
abbrev pub le4 : ℕ → List ℕ
le4 n = n % 256 ∷ n / 256 % 256 ∷ n / 65536 % 256 ∷ n / 16777216 % 256 ∷ []

-- and in eight
abbrev pub le8 : ℕ → List ℕ
le8 n = le4 n ++ le4 (n / 4294967296)

-- numbers added up
unfoldable pub sum : List ℕ → ℕ
sum [] = 0
sum (n ∷ ns) = n + sum ns

-- ---------------------------------------------------------------- answers

-- a call is refused, or gives its answer
abbrev pub Answer : Type 0 → Type 0
Answer A = Result A Refusal

-- what comes next, unless it was refused
unfoldable pub and_then : {A B : Type 0} → Answer A → (A → Answer B) → Answer B
and_then (Err r) f = Err r
and_then (Ok a) f = f a

infixl 1 ◌>>=◌
abbrev pub ◌>>=◌ : {A B : Type 0} → Answer A → (A → Answer B) → Answer B
a >>= f = and_then a f

-- that refusal if the test is true
abbrev pub refuse_if : Bool → Refusal → Answer (Unit {0})
refuse_if true r = Err r
refuse_if false r = Ok tt

-- the value, or that refusal where there is none
abbrev pub or_refuse : {A : Type 0} → Refusal → Option A → Answer A
or_refuse r None = Err r
or_refuse r (Some a) = Ok a
