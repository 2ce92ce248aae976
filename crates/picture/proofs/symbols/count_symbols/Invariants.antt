-- The loop's invariant: the symbols that were read, counted, and that the others follow them.
use Prim.Native.Nat.{ℕ, ◌≤◌}
use mathlib.Core.Path.{◌≡◌}
use mathlib.Core.List.{List}
use lib.ListN.{length}
use Rattle.definition.specs.declared.TheConstants.{MOST_SYMBOLS}
use Rattle.definition.specs.Picture.{expand}
use Rattle.definition.proofs.PictureLaws.{onto}
use Rattle.picture.specs.declared.symbols.Tallies.{Tallies}
use Rattle.picture.specs.declared.symbols.Half.{Half}
use Rattle.picture.specs.Shape.{tallies, halves}
use Rattle.picture.proofs.symbols.count_symbols.Given as goal

-- the symbols seen before what is left: their tallies, what is awaited after them, and that the others follow them
pub record Seen (picture : List ℕ) (at : ℕ) (s : Tallies) (half : Half) (left : List ℕ) : Type 0 where
  pub few : s.symbols ≤ MOST_SYMBOLS
  pub seen : List ℕ
  pub counted : s ≡ tallies seen
  pub halved : half ≡ halves Half.Nothing seen
  pub same : expand at 0 0 picture ≡ onto seen (expand at s.symbols 0 left)

abbrev pub invariant-loop-left : goal.invariant-loop-left
invariant-loop-left l = Seen l.picture l.at l.tallies l.half l.left

abbrev pub decreases-loop-left : goal.decreases-loop-left
decreases-loop-left l = length l.left
