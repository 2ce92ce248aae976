-- What a step of the clauses says where it changes them in place: what is expected next, and the clauses afterwards.
-- Assumes nothing.
use Rattle.std.specs.Prelude.{Result, Ok, Err}
use Rattle.definition.specs.declared.Clauses.{Clauses}
use Rattle.definition.specs.declared.ParseState.{ParseState}
use Rattle.definition.specs.declared.Missing.{Missing}
use Rattle.definition.specs.Statement.{Step}

-- what a step leads on to, or what is missing
abbrev pub led : Step → Result ParseState Missing
led (Ok (e, c)) = Ok e
led (Err m) = Err m

-- the clauses after a step: those that it leads on to, or those before it
abbrev pub kept_on : Step → Clauses → Clauses
kept_on (Ok (e, c)) d = c
kept_on (Err m) d = d
