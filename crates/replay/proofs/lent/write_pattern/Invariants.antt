-- `write_pattern` meets its contract: the pattern stands up to the byte that is next.
use Rattle.std.proofs.Common.{ℕ, ◌≡◌, ◌<◌, ◌%◌, length, get_or}
use Rattle.replay.proofs.lent.write_pattern.Given as goal

abbrev pub invariant-loop-i : goal.invariant-loop-i
invariant-loop-i l =
    (length l.out ≡ length l.initial.out) × ((k : ℕ) → k < l.i → get_or l.out k 0 ≡ k % 251)
