-- Laws of where an entry ends: what it means that 29 is not due.
-- Assumes nothing.
use Prim.Native.Nat.{ℕ, ◌≤◌}
use mathlib.Core.Path.{◌≡◌, refl, ap, ◌∙◌}
use mathlib.Core.Bool.{Bool, true, false}
use native.Mathlib.Omega.{arith}
use Rattle.definition.specs.declared.Entry.{Entry}
use Rattle.definition.specs.declared.Refusal.{Refusal}
use Rattle.definition.specs.declared.TheConstants.{LARGEST}
use Rattle.std.specs.Prelude.{if◌then◌else◌}
use Rattle.definition.specs.Basic.{Answer, Err, Ok}
use Rattle.definition.specs.Fold.{entry_end}
use Rattle.definition.specs.Layout.{too_large}
use Rattle.layout.specs.Ends.{end_of}

-- the numbers of an entry for which 29 is not due
pub record Within (e : Entry) : Type 0 where
  pub starts : e.offset ≤ LARGEST
  pub ends : entry_end e ≤ LARGEST

pub within : (e : Entry) → too_large e ≡ false → Within e
within e h = record { starts = grind arith; ends = grind arith }

-- where an entry ends, and that 29 is not due
pub record Ends (e : Entry) (n : ℕ) : Type 0 where
  pub fits : too_large e ≡ false
  pub is : entry_end e ≡ n
  pub starts : e.offset ≤ LARGEST
  pub ends : n ≤ LARGEST

module _ (e : Entry) where
  -- by the test
  abbrev tested : Bool → Answer ℕ
  tested b = if b then Err (Refusal.TooLarge e.at) else Ok (entry_end e)

  pub ends_at : {n : ℕ} → Ok n ≡ end_of e → Ends e n
  ends_at {n} h = go (too_large e) refl
    where
      go : (b : Bool) → too_large e ≡ b → Ends e n
      go true q =
          absurd (let z : Ok n ≡ Err (Refusal.TooLarge e.at) = h ∙ ap tested q in let y : ◌≡◌ {A = ℕ} 0 1 = cc in omega arith)
      go false q =
          let z : Ok n ≡ Ok (entry_end e) = h ∙ ap tested q in
          let same : entry_end e ≡ n = cc in
          let i = within e q in
          record { fits = q; is = same; starts = i.starts; ends = omega (arith, i.ends, same) }

  -- or that it is
  pub ends-not : {r : Refusal} → Err r ≡ end_of e → (◌≡◌ {A = Answer ℕ} (Err r) (Err (Refusal.TooLarge e.at))) × (too_large e ≡ true)
  ends-not {r} h = go (too_large e) refl
    where
      go : (b : Bool) → too_large e ≡ b → (◌≡◌ {A = Answer ℕ} (Err r) (Err (Refusal.TooLarge e.at))) × (too_large e ≡ true)
      go true q = (h ∙ ap tested q, q)
      go false q =
          absurd (let z : Err r ≡ Ok (entry_end e) = h ∙ ap tested q in let y : ◌≡◌ {A = ℕ} 0 1 = cc in omega arith)
