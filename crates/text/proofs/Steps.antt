-- The usual steps of an answer's `do`, of two words that are compared, and of the number that a word spells.
-- Assumes nothing.
use Prim.Native.Nat.{ℕ, suc, ◌+◌, ◌*◌, ◌-◌, ◌≤◌, ◌<◌}
use mathlib.Core.Path.{◌≡◌, refl, sym, ◌∙◌}
use mathlib.Core.Bool.{Bool, true, false}
use mathlib.Core.List.{List, [], ◌∷◌, map}
use native.Mathlib.Omega.{arith}
use lib.Dec.{eqb, ltb}
use lib.Pointwise.{pointwise}
use lib.ListN.{length, get_or, take, drop}
use borrow.Author.Tests.{le-ltb}
use Rattle.std.specs.Prelude.{IsAscii, None, position}
use Rattle.std.specs.Char.{to_ascii_lowercase}
use Rattle.std.specs.List.{position_from}
use Rattle.definition.specs.Calls.{first_wide}
use Rattle.std.proofs.lemmas.Iterator.Adapters.{position_from-zero}
use Rattle.definition.proofs.Lists.{rest_part}
use Rattle.std.proofs.lemmas.Bool.Decides.{nat_tests}
use Rattle.definition.specs.Basic.{upper, uppers, same, digits, numeral, below, number}
use Rattle.definition.proofs.Answers.{give-next, refuse-next}
use Rattle.definition.proofs.NumberLaws.{number-less, number-none, number-plus, number-plain, digits-end, digits_low, digits-high, digits-next, too_large, numeral-none, numeral-some}
use Rattle.definition.proofs.WordLaws.{same-equal, same_self}

-- a plus in front, and what a pattern binds after it
pub number-rest : (limit : ℕ) (w : List ℕ) → 0 < length w → get_or w 0 0 ≡ 43 → number limit w ≡ below limit (numeral (take (length w - 1) (drop 1 w)))
number-rest limit w h e = rw (rest_part w 1) (number-plus limit w h e)

pub ruleset number_steps = (nat_tests, number-less, number-none, number-rest, number-plain)

-- a number that is too large after one more digit
pub digits-over : (limit : ℕ) (w : List ℕ) (i n : ℕ) → i < length w → 48 ≤ get_or w i 0 → get_or w i 0 ≤ 57 → limit ≤ n * 10 + (get_or w i 0 - 48) → below limit (digits n (drop i w)) ≡ None
digits-over limit w i n h l m o = rw (digits-next w i n h l m, too_large limit (drop (i + 1) w) (n * 10 + (get_or w i 0 - 48)) o)

pub ruleset digit_steps = (nat_tests, digits-end, digits_low, digits-high, digits-next, digits-over, numeral-none, numeral-some)

-- `same` decides whether two words are equal
pub same_if : (xs ys : List ℕ) → xs ≡ ys → same xs ys ≡ true
same_if xs ys e = rw e (same_self ys)

pub same_not : (xs ys : List ℕ) → (xs ≡ ys → ⊥) → same xs ys ≡ false
same_not xs ys n = go (same xs ys) refl
  where
    go : (t : Bool) → same xs ys ≡ t → t ≡ false
    go true e = absurd (n (same-equal xs ys e))
    go false e = refl

-- bytes compared one with one
pub same-pairs : (xs ys : List ℕ) → pointwise eqb xs ys ≡ same xs ys
unfolding same
same-pairs [] [] = refl
same-pairs [] (y ∷ ys) = refl
same-pairs (x ∷ xs) [] = refl
same-pairs (x ∷ xs) (y ∷ ys) = rw (same-pairs xs ys)

pub ruleset word_steps = (same-pairs)

-- letter case aside, it is the same whether capitals or small letters are compared
lowered : (x y : ℕ) → upper x ≡ upper y → to_ascii_lowercase x ≡ to_ascii_lowercase y
lowered x y h = grind (arith, nat_tests)

raised : (x y : ℕ) → to_ascii_lowercase x ≡ to_ascii_lowercase y → upper x ≡ upper y
raised x y h = grind (arith, nat_tests)

pub all_lowered : (xs ys : List ℕ) → uppers xs ≡ uppers ys → map to_ascii_lowercase xs ≡ map to_ascii_lowercase ys
all_lowered [] [] h = refl
all_lowered [] (y ∷ ys) h = cc
all_lowered (x ∷ xs) [] h = cc
all_lowered (x ∷ xs) (y ∷ ys) h = let a = lowered x y (cc) in let b = all_lowered xs ys (cc) in cc

pub all_raised : (xs ys : List ℕ) → map to_ascii_lowercase xs ≡ map to_ascii_lowercase ys → uppers xs ≡ uppers ys
all_raised [] [] h = refl
all_raised [] (y ∷ ys) h = cc
all_raised (x ∷ xs) [] h = cc
all_raised (x ∷ xs) (y ∷ ys) h = let a = raised x y (cc) in let b = all_raised xs ys (cc) in cc

pub ruleset case_steps = (same_if, same_not, all_lowered, all_raised)

-- the first place where a test holds, from i on
wide_from : (xs : List ℕ) (i : ℕ) → position_from (λ b. ltb 127 b) i xs ≡ first_wide i xs
unfolding first_wide
wide_from [] i = refl
wide_from (x ∷ xs) i = rw (wide_from xs (i + 1))

-- the first byte over 127
pub first_wide-is : (xs : List ℕ) → first_wide 0 xs ≡ position (λ b. ltb 127 b) xs
first_wide-is xs = sym (position_from-zero (λ b. ltb 127 b) xs ∙ wide_from xs 0)

pub ruleset answer_steps = (give-next, refuse-next, first_wide-is)

-- a text of ASCII bytes has none over 127
none_from : (xs : List ℕ) (i : ℕ) → IsAscii xs → first_wide i xs ≡ None
unfolding first_wide
none_from [] i h = refl
none_from (x ∷ xs) i h = let low : x < 128 = h 0 in rw (le-ltb 127 x (omega arith)) (none_from xs (i + 1) (λ k. h (suc k)))

pub ascii_none : (xs : List ℕ) → IsAscii xs → position (λ b. ltb 127 b) xs ≡ None
ascii_none xs h = sym (first_wide-is xs) ∙ none_from xs 0 h
