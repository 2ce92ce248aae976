-- Stop at the name, as one statement (`stops-at-the-name`, of the proofs, keeps it): the search for a target ends at the
-- first match back from the item, and the names it compared are exactly the distance back to the match, or all
-- earlier siblings where none has the name.
-- Assumes nothing.
use Rattle.std.specs.Prelude.{ℕ, suc, ◌≡◌, true, false, List, [], ◌∷◌, ◌++◌, length}
use Rattle.std.specs.Prelude.{None, Some}
use Rattle.definition.specs.declared.Span.{Span}
use Rattle.definition.specs.Fold.{same_name, Place, search_back}

-- none of these siblings has the name
abbrev pub NoneNamed : List ℕ → Span → List Place → Type 0
NoneNamed text w [] = Unit {0}
NoneNamed text w (p ∷ ps) = (same_name text w p.name ≡ false) × NoneNamed text w ps

-- the siblings are those before the item, the latest first: the nearer ones, the match, and those further back. The
-- distance to the sibling directly before is 1
pub record StopsAtTheName (text : List ℕ) (w : Span) : Type 0 where
  pub match :
      (nearer : List Place) (p : Place) (further : List Place) →
      NoneNamed text w nearer →
      same_name text w p.name ≡ true →
      search_back text w (nearer ++ p ∷ further) ≡ record { found = Some p.offset; compared = suc (length nearer) }
  pub no-match :
      (earlier : List Place) →
      NoneNamed text w earlier →
      search_back text w earlier ≡ record { found = None; compared = length earlier }
