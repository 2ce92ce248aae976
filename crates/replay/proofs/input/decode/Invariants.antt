-- `decode` meets its contract: the bytes that were written, and those that are still to come, are the input.
use Rattle.std.proofs.Common.{ℕ, List, ◌≡◌, ◌≤◌, ◌++◌, length, take}
use Rattle.replay.specs.Inputs.{decoded, input}
use Rattle.replay.proofs.input.decode.Given as goal

pub record Written (word rest : List ℕ) (before n : ℕ) (out old : List ℕ) : Type 0 where
  pub within : n ≤ length old
  pub from : before ≤ n
  pub same : length out ≡ length old
  pub front : take n out ++ decoded rest ≡ take before old ++ input word

abbrev pub invariant-loop-byte : goal.invariant-loop-byte
invariant-loop-byte l = Written l.fn.word l.byte-iterator.rest.now l.before l.n l.out l.initial.out
