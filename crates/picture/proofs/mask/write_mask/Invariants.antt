-- The loop's invariant: what is written from k on of the symbols that are left is all that is to be written.
use Prim.Native.Nat.{ℕ}
use mathlib.Core.Path.{◌≡◌}
use mathlib.Core.List.{List}
use lib.ListN.{length}
use Rattle.definition.specs.Picture.{expand}
use Rattle.picture.specs.Masks.{MaskRoom, put}
use Rattle.picture.proofs.mask.write_mask.Given as goal

-- `seen` symbols stand before what is left, and their mask fills k bytes
pub record Left (picture out₀ out : List ℕ) (k : ℕ) (left : List ℕ) : Type 0 where
  pub kept : length out ≡ length out₀
  pub seen : ℕ
  pub room : MaskRoom k (expand 0 seen 0 left) (length out)
  pub same : put 0 (expand 0 0 0 picture) out₀ ≡ put k (expand 0 seen 0 left) out

abbrev pub invariant-loop-left : goal.invariant-loop-left
invariant-loop-left l = Left l.picture l.initial.out l.out l.k l.left

abbrev pub decreases-loop-left : goal.decreases-loop-left
decreases-loop-left l = length l.left
