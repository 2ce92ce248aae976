-- Refusal 30: the check of one entry of a list, and of the row that holds it.
-- Assumes nothing.
use Rattle.std.specs.Prelude.{ℕ, List, ltb, if◌then◌else◌}
use Rattle.std.specs.Prelude.{Option, None, Some}
use Rattle.definition.specs.declared.Entry.{Entry}
use Rattle.definition.specs.declared.Refusal.{Refusal}
use Rattle.definition.specs.Basic.{is_given, Answer, Ok, refuse_if}
use Rattle.definition.specs.Fold.{Place, find}
use Rattle.rows.specs.declared.Row.{Row}
use Rattle.rows.specs.Rows.{row_code, row_in}
use Rattle.layout.specs.Targets.{offset_of}

-- 30 for one entry: a redefiner that starts before its base
abbrev pub check_base : ℕ → ℕ → Option ℕ → Answer (Unit {0})
check_base at offset None = Ok tt
check_base at offset (Some base) = refuse_if (ltb offset base) (Refusal.StartsBeforeBase at)

-- the same, where these are the earlier bases; an entry without REDEFINES passes
abbrev pub check_entry : List ℕ → List Place → Entry → Answer (Unit {0})
check_entry text bases e =
    if is_given e.redefines then check_base e.at e.offset (find text e.redefines bases) else Ok tt

-- the same for row i, by the base that it names
abbrev pub check_row : List Row → ℕ → Answer (Unit {0})
check_row w i = check_base (row_in w i).statement.at (row_in w i).place.offset (offset_of w (row_code (row_in w i).place.base))
