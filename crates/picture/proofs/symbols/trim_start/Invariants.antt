-- The loop's invariant: what is trimmed of the text is what is trimmed of what is left.
use Rattle.std.proofs.Common.{◌≡◌, length}
use Rattle.definition.specs.Picture.{trim_start}
use Rattle.picture.proofs.symbols.trim_start.Given as goal

abbrev pub invariant-loop-s : goal.invariant-loop-s
invariant-loop-s l = trim_start l.s ≡ trim_start l.fn.s

abbrev pub decreases-loop-s : goal.decreases-loop-s
decreases-loop-s l = length l.s
