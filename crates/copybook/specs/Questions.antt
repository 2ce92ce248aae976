-- The three questions about a record, as the definition has them, with what is written: a report of its entries, the
-- owner of a byte, and an extract.
-- Assumes nothing.
use Rattle.std.specs.Prelude.{ℕ, List, [], length}
use Rattle.definition.specs.declared.Owner.{Owner}
use Rattle.definition.specs.declared.Extract.{Extract}
use Rattle.definition.specs.Basic.{Answer, Err, Ok}
use Rattle.definition.specs.Calls.{Question, report, owner_in, extract_in}
use Rattle.record.specs.Asking.{Given}
use Rattle.copybook.specs.declared.answers.ReportOf.{ReportOf}
use Rattle.copybook.specs.declared.answers.OwnerAt.{OwnerAt}
use Rattle.copybook.specs.declared.answers.ExtractBy.{ExtractBy}

-- bytes, and how many
abbrev pub written_as : Answer (List ℕ) → Answer (Given ℕ)
written_as (Err r) = Err r
written_as (Ok bs) = Ok (record { value = length bs; bytes = bs })

-- a value, and nothing written
abbrev pub unwritten : {A : Type 0} → Answer A → Answer (Given A)
unwritten (Err r) = Err r
unwritten (Ok a) = Ok (record { value = a; bytes = [] })

abbrev pub report_given : ReportOf → ℕ → Question (Given ℕ)
report_given r room text root f es = written_as (report r.what room text root f es)

abbrev pub owner_given : OwnerAt → ℕ → Question (Given Owner)
owner_given o room text root f es = unwritten (owner_in o.position text root f es)

abbrev pub extract_given : ExtractBy → ℕ → Question (Given Extract)
extract_given x room text root f es =
    unwritten (extract_in x.terms.weights.now x.terms.limit x.terms.budget text root f es)
