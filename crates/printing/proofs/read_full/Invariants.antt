-- `printing::read_full` meets its contract. The loop's invariant: what stands in the buffer is what the input had.
use Rattle.std.proofs.Common.{◌≤◌, ◌≡◌, ◌-◌, length, take}
use Rattle.std.specs.Io.KnownBytes.{Consumes}
use Rattle.printing.proofs.read_full.Given as goal

abbrev pub invariant-loop-n : goal.invariant-loop-n
invariant-loop-n g l =
    (length l.buf ≡ length l.fn.buf)
    × (l.n ≤ length l.buf)
    × Consumes (g.R.Read.remaining l.fn.input) (g.R.Read.remaining l.input) (take l.n l.buf)

abbrev pub decreases-loop-n : goal.decreases-loop-n
decreases-loop-n g l = length l.buf - l.n
