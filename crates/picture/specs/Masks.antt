-- The writing of a mask: what stands in the output after the mask of some symbols was written from a place on.
-- Assumes nothing.
use Rattle.std.specs.Prelude.{ℕ, ◌+◌, ◌≤◌, ◌≡◌, Bool, List, [], length, replicate, if◌then◌else◌}
use Rattle.definition.specs.declared.Usage.{Usage}
use Rattle.std.proofs.lemmas.List.Edits.{sets}
use Rattle.definition.specs.Basic.{among, Answer, Err, Ok, ◌>>=◌}
use Rattle.definition.specs.Picture.{mask, symbols, is_masked}
use Rattle.definition.specs.Calls.{fitting}

-- the symbol takes no byte of a mask
abbrev pub hidden : ℕ → Bool
hidden b = among "SV" b

-- there are symbols, and their mask has room from k on
abbrev pub MaskRoom : ℕ → Answer (List ℕ) → ℕ → Type 0
MaskRoom k (Err r) room = ⊥
MaskRoom k (Ok l) room = k + length (mask l) ≤ room

-- the output with their mask from k on
abbrev pub put : ℕ → Answer (List ℕ) → List ℕ → List ℕ
put k (Err r) out = []
put k (Ok l) out = sets out k (mask l)

-- the mask of a run was written from k on, and r is the place after it
pub record Wrote (out : List ℕ) (k b n r : ℕ) (after : List ℕ) : Type 0 where
  pub next : r ≡ k + length (mask (replicate n b))
  pub same : after ≡ sets out k (mask (replicate n b))

-- the mask of a picture whose text was checked
unfoldable pub mask_in : Usage → List ℕ → ℕ → Answer (List ℕ)
mask_in usage bs room = symbols 0 usage bs >>= λ l. fitting room (if is_masked usage l then mask l else [])
