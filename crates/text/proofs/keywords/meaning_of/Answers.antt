-- `keywords::meaning_of` meets its contract: what the first spelling says is what is said of the one that is found.
use Prim.Native.Nat.{ℕ}
use mathlib.Core.Path.{◌≡◌, refl, ◌∙◌}
use mathlib.Core.List.{List, [], ◌∷◌}
use native.Mathlib.Omega.{arith}
use Rattle.std.specs.Borrow.{Bor}
use Rattle.std.specs.List.{find}
use Rattle.std.specs.Option.{option_map}
use Rattle.definition.specs.declared.Keyword.{Keyword}
use Rattle.definition.specs.Basic.{same, uppers}
use Rattle.text.specs.Table.{first_meaning}
use Rattle.text.proofs.keywords.meaning_of.Goals as goal

found-meaning :
    (u : List ℕ) (t : List (Bor (List ℕ) × Keyword)) →
    option_map (λ (s : Bor (List ℕ) × Keyword). s.1) (find (λ (s : Bor (List ℕ) × Keyword). same u s.0.now) t) ≡ first_meaning u t
found-meaning u [] = refl
found-meaning u (s ∷ t) = grind (arith, found-meaning u t)

pub returns : goal.returns
returns c = c.found.ensures ∙ found-meaning (uppers c.args.word.now) c.args.spellings.now
