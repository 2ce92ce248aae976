-- What reading a set of copybooks says: what was found in each, whether the later ones agree with the first, and the
-- answer of the set.
-- Assumes nothing.
use Rattle.std.specs.Prelude.{ℕ, ◌≤◌, ◌≡◌, Bool, false, ◌&&◌, List, [], ◌∷◌, length}
use Rattle.std.specs.Prelude.{Option}
use Rattle.definition.specs.declared.KeyColumn.{KeyColumn}
use Rattle.definition.specs.declared.Refusal.{Refusal}
use Rattle.definition.specs.Basic.{sum, Answer, Err, Ok, ◌>>=◌, or_refuse}
use Rattle.definition.specs.Calls.{Question}
use Rattle.definition.specs.Fold.{folded_all}
use Rattle.fold.specs.Entered.{flat_in}
use Rattle.definition.specs.Key.{Key, key_in, keys_in, agree, common, copybooks}
use Rattle.key.specs.declared.Sought.{Sought}
use Rattle.key.specs.Sought.{found_key, sought_in}
use Rattle.record.specs.Asking.{Given}
use Rattle.key.specs.declared.family.KeyNamed.{KeyNamed}

-- ---------------------------------------------------------------- one copybook

-- what is found among the entries at the top
abbrev pub key_given : KeyNamed → ℕ → Question (Given Sought)
key_given k room text root f es =
    Ok (record { value = sought_in text k.name.now false Sought.Nothing (flat_in 0 (folded_all text es)); bytes = [] })

-- the key of what was found
abbrev pub read_key : List ℕ → Answer Sought → Answer (Option Key)
read_key text (Err r) = Err r
read_key text (Ok found) = Ok (found_key text found)

-- ---------------------------------------------------------------- the later ones

-- whether all of them have the key a too
unfoldable pub all_agreed : ℕ → List ℕ → Option Key → Bool → List (List ℕ) → Answer Bool
all_agreed work name a agreed [] = Ok agreed
all_agreed work name a agreed (text ∷ texts) = do
  k ← key_in work name text
  all_agreed work name a (agreed && agree a k) texts

-- ---------------------------------------------------------------- a set

-- some copybooks, whose lengths add up to the texts
pub record Lent (texts lengths : List ℕ) : Type 0 where
  pub some-there : 1 ≤ length lengths
  pub all_there : sum lengths ≡ length texts

-- the place of a key, or 57
abbrev pub place_of : Option Key → Answer KeyColumn
place_of k = or_refuse Refusal.NoCommonKey k >>= λ k. Ok (record { offset = k.offset; width = k.width })

-- the place of the key that all copybooks have
abbrev pub keys_given : ℕ → List ℕ → List ℕ → List ℕ → Answer KeyColumn
keys_given work name lengths texts = keys_in work name (copybooks lengths texts) >>= λ ks. place_of (common ks)
