-- What it means that bytes were put into an output, from a place on. A byte past the output's end is counted and not
-- written, so that the same functions measure and write.
-- Assumes nothing.
use Rattle.std.specs.Prelude.{ℕ, ◌+◌, ◌<◌, ◌≡◌, List, length}
use Rattle.std.proofs.lemmas.List.Edits.{sets}
use Rattle.output.specs.declared.Sink.{Sink}

-- the place after the bytes is a `usize`
abbrev pub Countable : ℕ → List ℕ → Type 0
Countable at bs = at + length bs < 18446744073709551616

-- the bytes were put from a place on, and r is the place after them
pub record Put (out : List ℕ) (at : ℕ) (bs : List ℕ) (r : ℕ) (after : List ℕ) : Type 0 where
  pub next : r ≡ at + length bs
  pub same : after ≡ sets out at bs

-- they were put into the same output
pub record Puts (s : Sink) (bs : List ℕ) (s' : Sink) : Type 0 where
  pub name : s'.out.ghost_name ≡ s.out.ghost_name
  pub put : Put s.out.now s.at bs s'.at s'.out.now
