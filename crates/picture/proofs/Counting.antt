-- Laws of the tallies: those of a list with a run after it, and that none is too large to add up.
-- Assumes nothing.
use Prim.Native.Nat.{ℕ, ◌+◌, ◌≤◌}
use Prim.Native.String.{String}
use mathlib.Core.Path.{◌≡◌, refl, ap, ◌∙◌}
use mathlib.Core.Bool.{Bool, true, false, ◌||◌}
use mathlib.Core.List.{List, ◌++◌}
use native.Mathlib.Omega.{arith}
use lib.Dec.{eqb}
use lib.ListN.{length, replicate, length-append, length-replicate}
use borrow.Author.Tests.{eqb-true}
use Rattle.definition.specs.declared.TheConstants.{MOST_SYMBOLS}
use Rattle.definition.specs.Basic.{among}
use Rattle.definition.specs.Picture.{tally, before_point}
use Rattle.definition.proofs.PictureLaws.{tally-append, tally-run, tally-le, before-append, before-run, tally-sides}
use Rattle.definition.proofs.PictureLaws.{without-length, mask-width}
use Rattle.picture.specs.Shape.{tallied, times_in, tallies, run_of, unless, joined, Small}

-- a point is no digit
pub no_digit : (b : ℕ) → among "V." b ≡ true → among "9Z*" b ≡ false
no_digit b h = go (eqb b 86) (eqb b 46) refl refl h
  where
    go : (v p : Bool) → eqb b 86 ≡ v → eqb b 46 ≡ p → (v || (p || false)) ≡ true → among "9Z*" b ≡ false
    go true p ev ep h = rw (eqb-true b 86 ev)
    go false true ev ep h = rw (eqb-true b 46 ep)
    go false false ev ep h = absurd (let z : ◌≡◌ {A = ℕ} 0 1 = cc in omega arith)

-- what a run adds to a list
module _ (l : List ℕ) (b n : ℕ) where
  more : (s : String) → tally s (l ++ replicate n b) ≡ tally s l + times_in s b n
  more s = tally-append s l (replicate n b) ∙ ap (λ (k : ℕ). tally s l + k) (tally-run s b n)

  more-symbols : length (l ++ replicate n b) ≡ length l + n
  more-symbols = length-append l (replicate n b) ∙ ap (λ (k : ℕ). length l + k) (length-replicate n b)

  more-whole : tally "9Z*" (before_point (l ++ replicate n b)) ≡ tally "9Z*" (before_point l) + unless (tally "V." l) (times_in "9Z*" b n)
  more-whole =
      before-append "9Z*" l (replicate n b) ∙
      ap (λ (k : ℕ). tally "9Z*" (before_point l) + unless (tally "V." l) k) (before-run "9Z*" b n (no_digit b))

  -- a run after a list
  pub tallies-more : tallies (l ++ replicate n b) ≡ joined (tallies l) (run_of b n)
  tallies-more i = tallied (more-symbols i) (more-whole i) (λ s. more s i)

-- small counts make small tallies
small-tallied :
    (symbols whole : ℕ) (count : String → ℕ) →
    symbols ≤ MOST_SYMBOLS →
    whole ≤ count "9Z*" →
    ((s : String) → count s ≤ symbols) →
    count "SV" + count "P" ≤ symbols →
    Small (tallied symbols whole count)
small-tallied symbols whole count few part le apart =
    let small : (s : String) → count s ≤ MOST_SYMBOLS = λ s. omega (arith, le s) in
    record {
      symbols = few;
      text = small "XA";
      digits = small "9Z*";
      whole = part;
      scaled = small "P";
      points = small "V.";
      dollars = small "$";
      pluses = small "+";
      minuses = small "-";
      signs = small "S+-CD";
      edits = small "Z*.,/B0$+-CD";
      hidden = apart;
    }

-- so few symbols have small tallies
pub small : (l : List ℕ) → length l ≤ MOST_SYMBOLS → Small (tallies l)
small l h =
    small-tallied (length l) (tally "9Z*" (before_point l)) (λ s. tally s l) h (omega (arith, tally-sides "9Z*" l no_digit))
    (λ s. tally-le s l) (omega (arith, without-length "SV" l, mask-width l))
