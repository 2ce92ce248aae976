-- How far back the search for a name goes (`Distance`).
-- Assumes nothing.
use Prim.Native.Nat.{ℕ, suc}
use mathlib.Core.Path.{◌≡◌, ap, ◌∙◌}
use mathlib.Core.Bool.{true}
use mathlib.Core.List.{List, [], ◌∷◌, ◌++◌}
use Rattle.std.specs.Prelude.{None, Some}
use lib.ListN.{length}
use Rattle.definition.specs.declared.Span.{Span}
use Rattle.definition.specs.Fold.{same_name, Place, one_more, search_back}
use Rattle.theorems.specs.Distance.{NoneNamed, StopsAtTheName}
use Rattle.definition.proofs.LayoutLaws.{search-none, search-hit, search-miss}

module _ (text : List ℕ) (w : Span) where
  at-match :
      (nearer : List Place) (p : Place) (further : List Place) →
      NoneNamed text w nearer →
      same_name text w p.name ≡ true →
      search_back text w (nearer ++ p ∷ further) ≡ record { found = Some p.offset; compared = suc (length nearer) }
  at-match [] p further n h = search-hit text w p further h
  at-match (q ∷ nearer) p further n h =
      search-miss text w q (nearer ++ p ∷ further) n.0 ∙ ap one_more (at-match nearer p further n.1 h)

  at_none :
      (earlier : List Place) →
      NoneNamed text w earlier →
      search_back text w earlier ≡ record { found = None; compared = length earlier }
  at_none [] n = search-none text w
  at_none (q ∷ earlier) n = search-miss text w q earlier n.0 ∙ ap one_more (at_none earlier n.1)

  pub stops-at-the-name : StopsAtTheName text w
  stops-at-the-name = record { match = at-match; no-match = at_none }
