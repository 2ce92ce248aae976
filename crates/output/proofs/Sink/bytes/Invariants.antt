use Rattle.std.proofs.Common.{take}
use Rattle.output.specs.Puts.{Puts}
use Rattle.output.proofs.Sink.bytes.Given as goal

-- the bytes so far were put
abbrev pub invariant-loop-b : goal.invariant-loop-b
invariant-loop-b g l = Puts l.initial.self (take l.b-index l.b-items) l.self
