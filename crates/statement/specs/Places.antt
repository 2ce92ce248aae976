-- The places in the text that the clauses name.
-- Assumes nothing.
use Rattle.std.specs.Prelude.{ℕ, ◌+◌, ◌≤◌, List, length}
use Rattle.definition.specs.declared.Clauses.{Clauses}
use Rattle.definition.specs.declared.Span.{Span}
use Rattle.definition.proofs.SpanLaws.{Spans}

-- a span lies in the text
abbrev pub SpanInside : List ℕ → Span → Type 0
SpanInside text w = w.start + w.len ≤ length text

-- the spans that the clauses name lie in the text
abbrev pub Fits : List ℕ → Clauses → Type 0
Fits text c = Spans (SpanInside text) c
