-- Laws of the picture's symbols: tallies, the point and a list without some symbols, of two lists and of a run, each
-- once over the set, the byte and the count; a list put before an answer; and a symbol without a repeat.
-- Assumes nothing.
use Prim.Native.Nat.{ℕ, zero, suc, ◌+◌, ◌≤◌, ◌<◌}
use Prim.Native.String.{String}
use mathlib.Core.Path.{◌≡◌, refl, ap, ◌∙◌}
use mathlib.Core.Bool.{true, false}
use mathlib.Core.List.{List, [], ◌∷◌, ◌++◌, append_assoc}
use native.Mathlib.Omega.{arith}
use lib.Dec.{ltb}
use lib.ListN.{length, get_or, replicate}
use Rattle.std.specs.Prelude.{if◌then◌else◌}
use Rattle.definition.specs.Basic.{among, Answer, Ok, ◌>>=◌, and_then}
use Rattle.definition.specs.Picture.{repeat, tally, before_point}
use Rattle.definition.specs.Picture.{after_point, without, mask}

-- ---------------------------------------------------------------- tallies

-- of two lists, one after the other
pub tally-append : (s : String) (l m : List ℕ) → tally s (l ++ m) ≡ tally s l + tally s m
unfolding tally
tally-append s [] m = omega arith
tally-append s (b ∷ l) m = grind (arith, tally-append s l m)

-- of a run: all of it, or nothing
pub tally-run : (s : String) (b n : ℕ) → tally s (replicate n b) ≡ (if among s b then n else 0)
unfolding tally
tally-run s b zero = grind arith
tally-run s b (suc n) = grind (arith, tally-run s b n)

-- no more than there are symbols
pub tally-le : (s : String) (l : List ℕ) → tally s l ≤ length l
unfolding tally
tally-le s [] = omega arith
tally-le s (b ∷ l) = grind (arith, tally-le s l)

-- ---------------------------------------------------------------- the point

-- the symbols before the point of two lists: those of the second count if the first has no point
pub before-append :
    (s : String) (l m : List ℕ) →
    tally s (before_point (l ++ m)) ≡ tally s (before_point l) + (if ltb 0 (tally "V." l) then 0 else tally s (before_point m))
unfolding tally before_point
before-append s [] m = omega arith
before-append s (b ∷ l) m = grind (arith, before-append s l m)

-- of a point that is repeated nothing stands before the point
point-run : (b n : ℕ) → among "V." b ≡ true → before_point (replicate n b) ≡ []
unfolding before_point
point-run b zero e = refl
point-run b (suc n) e = grind arith

-- and all of another symbol
other-run : (b n : ℕ) → among "V." b ≡ false → before_point (replicate n b) ≡ replicate n b
unfolding before_point
other-run b zero e = refl
other-run b (suc n) e = grind (arith, other-run b n e)

-- so a run before the point counts in whole, if its symbol is no point or is not counted
pub before-run :
    (s : String) (b n : ℕ) →
    (among "V." b ≡ true → among s b ≡ false) →
    tally s (before_point (replicate n b)) ≡ (if among s b then n else 0)
unfolding tally
before-run s b n h = grind (arith, point-run, other-run, tally-run)

-- the symbols on both sides of the point are all but the point
pub tally-sides :
    (s : String) (l : List ℕ) →
    ((b : ℕ) → among "V." b ≡ true → among s b ≡ false) →
    tally s l ≡ tally s (before_point l) + tally s (after_point l)
unfolding tally before_point after_point
tally-sides s [] h = refl
tally-sides s (b ∷ l) h = grind (arith, h b, tally-sides s l h)

-- ---------------------------------------------------------------- without some symbols

-- of two lists, one after the other
pub without-append : (s : String) (l m : List ℕ) → without s (l ++ m) ≡ without s l ++ without s m
unfolding without
without-append s [] m = refl
without-append s (b ∷ l) m = grind (arith, without-append s l m)

-- of a run: all of it, or nothing
pub without-run : (s : String) (b n : ℕ) → without s (replicate n b) ≡ (if among s b then [] else replicate n b)
unfolding without
without-run s b zero = grind arith
without-run s b (suc n) = grind (arith, without-run s b n)

-- what is left out is counted
pub without-length : (s : String) (l : List ℕ) → length l ≡ length (without s l) + tally s l
unfolding without tally
without-length s [] = refl
without-length s (b ∷ l) = grind (arith, without-length s l)

-- the tally of other symbols stays
tally-without :
    (s t : String) (l : List ℕ) →
    ((b : ℕ) → among t b ≡ true → among s b ≡ false) →
    tally s (without t l) ≡ tally s l
unfolding without tally
tally-without s t [] h = refl
tally-without s t (b ∷ l) h = grind (arith, h b, tally-without s t l h)

-- P is in the mask
no-scale : (b : ℕ) → among "SV" b ≡ true → among "P" b ≡ false
no-scale b h = grind arith

-- and makes it longer than the item is wide
pub mask-width : (l : List ℕ) → length (mask l) ≡ length (without "P" (mask l)) + tally "P" l
mask-width l =
    without-length "P" (mask l) ∙ ap (λ (n : ℕ). length (without "P" (mask l)) + n) (tally-without "P" "SV" l no-scale)

-- ---------------------------------------------------------------- a list before an answer

-- a list after another, or the refusal
abbrev pub onto : List ℕ → Answer (List ℕ) → Answer (List ℕ)
onto p x = x >>= λ l. Ok (p ++ l)

-- nothing before it
pub onto-nil : (x : Answer (List ℕ)) → onto [] x ≡ x
unfolding and_then
onto-nil x = grind arith

-- one list before the other
pub onto-onto : (p r : List ℕ) (x : Answer (List ℕ)) → onto p (onto r x) ≡ onto (p ++ r) x
unfolding and_then
onto-onto p r x = grind (arith, append_assoc)

-- ---------------------------------------------------------------- a symbol without a repeat

-- nothing after the symbol
pub repeat-none : (at : ℕ) (rest : List ℕ) → length rest ≡ 0 → repeat at rest ≡ Ok (1, 0)
unfolding repeat
repeat-none at rest h = grind arith

-- another byte after the symbol
pub repeat-plain : (at : ℕ) (rest : List ℕ) → 0 < length rest → (get_or rest 0 0 ≡ 40 → ⊥) → repeat at rest ≡ Ok (1, 0)
unfolding repeat
repeat-plain at rest h e = grind arith
