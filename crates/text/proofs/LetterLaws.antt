-- Only the spellings of a word's first letter can be the word.
-- Assumes nothing.
use Prim.Native.Nat.{ℕ, ◌≤◌, ◌<◌}
use mathlib.Core.Path.{◌≡◌, refl, ap, ◌∙◌}
use mathlib.Core.Bool.{Bool, true, false}
use mathlib.Core.List.{List, [], ◌∷◌}
use Rattle.std.specs.Prelude.{Option, None, Some, if◌then◌else◌}
use native.Mathlib.Omega.{arith}
use lib.ListN.{length, get_or}
use Rattle.definition.specs.declared.Keyword.{Keyword}
use Rattle.definition.specs.Basic.{bytes, same, upper, uppers}
use Rattle.definition.specs.Statement.{key, Spelling, meaning, spellings, keyword_of}
use Rattle.text.specs.Table.{first, kept, starting}

module _ (b : ℕ) (u : List ℕ) where
  -- a spelling with another first letter is not the word
  passed : (s : List ℕ) → first b s ≡ false → same (b ∷ u) s ≡ false
  unfolding same
  passed [] h = refl
  passed (x ∷ xs) h = rw h

  -- so the spellings of its letter say what all say
  letter-says : (ss : List Spelling) → meaning (b ∷ u) ss ≡ meaning (b ∷ u) (starting b ss)
  letter-says [] = refl
  letter-says (s ∷ ss) = by-letter (first b (bytes s.word)) refl (letter-says ss)
    where
      by-letter :
          (t : Bool) →
          first b (bytes s.word) ≡ t →
          meaning (b ∷ u) ss ≡ meaning (b ∷ u) (starting b ss) →
          meaning (b ∷ u) (s ∷ ss) ≡ meaning (b ∷ u) (kept t s (starting b ss))
      by-letter true h rest =
          ap (λ (k : Option Keyword). if key s.word (b ∷ u) then Some s.means else k) rest
      by-letter false h rest =
          ap (λ (t : Bool). if t then Some s.means else meaning (b ∷ u) ss) (passed (bytes s.word) h) ∙ rest

-- PIC begins a picture
pub picture-word : (w : List ℕ) → same (uppers w) (bytes "PIC") ≡ true → keyword_of (uppers w) ≡ Some Keyword.Picture
unfolding keyword_of
picture-word w h = rw h

-- an empty word begins no clause
pub empty-word : (w : List ℕ) → length w < 1 → keyword_of (uppers w) ≡ None
unfolding keyword_of same
empty-word [] h = refl
empty-word (x ∷ w) h = absurd (omega arith)

-- any other word begins what the spellings of its first letter say
pub lettered-word :
    (w : List ℕ) → 1 ≤ length w →
    keyword_of (uppers w) ≡ meaning (uppers w) (starting (upper (get_or w 0 0)) spellings)
unfolding keyword_of
lettered-word [] h = absurd (omega arith)
lettered-word (x ∷ w) h = letter-says (upper x) (uppers w) spellings

pub ruleset letter_steps = (picture-word, empty-word, lettered-word)
