-- A table of rows, one for each kept statement, in copybook order: what stands in a row.
-- Assumes nothing.
use Rattle.std.specs.Prelude.{ℕ, zero, suc, ◌-◌, List, [], ◌∷◌, eqb, get_or, if◌then◌else◌, Option, None, Some, false}
use Rattle.definition.specs.declared.FieldKind.{FieldKind}
use Rattle.definition.specs.declared.Statement.{Statement}
use Rattle.definition.specs.Basic.{absent}
use Rattle.definition.specs.Statement.{clauses_of}
use Rattle.text.specs.Fingerprints.{name_fingerprint}
use Rattle.rows.specs.declared.Place.{Place}
use Rattle.rows.specs.declared.Row.{Row}

-- ---------------------------------------------------------------- the number of a row

-- the row that a number names: the row and 1, or 0 for none
abbrev pub row_of_code : ℕ → Option ℕ
row_of_code n = if eqb n 0 then None else Some (n - 1)

-- and back
abbrev pub row_code : Option ℕ → ℕ
row_code None = 0
row_code (Some k) = suc k

-- ---------------------------------------------------------------- rows

abbrev pub no_statement : Statement
no_statement =
    record { level = 0; at = 0; name = absent; clauses = clauses_of absent None None false None absent absent; usage = None }

abbrev pub no_place : Place
no_place =
    record {
      offset = 0;
      width = 0;
      slack = 0;
      slack_at_end = 0;
      kind = FieldKind.Text;
      digits = None;
      gap = 0;
      base = None;
      plain = None;
      target = None;
      next = None;
    }

-- a row of a statement under a parent, with this fingerprint of its name, and nothing else yet
abbrev pub fresh : Statement → Option ℕ → ℕ → Row
fresh s parent fingerprint =
    record { statement = s; parent = parent; fingerprint = fingerprint; below = 0; place = no_place }

-- the row of a statement of this text
abbrev pub new_row : List ℕ → Statement → Option ℕ → Row
new_row text s parent = fresh s parent (name_fingerprint text s.name)

abbrev pub blank : Row
blank = fresh no_statement None 0

-- row k
abbrev pub row_in : List Row → ℕ → Row
row_in w k = get_or w k blank

-- the end of the siblings before row k: the row after the latest of them, or 0 where there is none
abbrev pub before_in : List Row → ℕ → ℕ
before_in w k = k - (row_in w k).place.gap

-- the statement in row k
abbrev pub statement_at : List Row → ℕ → Statement
statement_at w k = (row_in w k).statement

-- n statements from row k on
unfoldable pub statements_from : List Row → ℕ → ℕ → List Statement
statements_from w k zero = []
statements_from w k (suc n) = statement_at w k ∷ statements_from w (suc k) n
