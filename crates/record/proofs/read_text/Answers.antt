-- `record::read_text` meets its contract: the checks, and then the rows that hold the statements, with the counts of
-- the rows below them and the fingerprints of their names.
use Prim.Native.Nat.{ℕ}
use mathlib.Core.List.{List}
use native.Mathlib.Omega.{arith}
use Rattle.std.proofs.Common.{◌≡◌, refl}
use Rattle.std.proofs.lemmas.Result.{err_from_is_err_and}
use Rattle.definition.specs.Basic.{Ok}
use Rattle.definition.specs.Calls.{entry_checks}
use Rattle.definition.proofs.CallsLaws.{Passes, passes}
use Rattle.statement.proofs.ReadingLaws.{stored, turned_down}
use Rattle.record.proofs.EntryLaws.{checks-refuse, read-refused, read_kept}
use Rattle.record.proofs.read_text.Goals as goal

past : {text : List ℕ} {n : ℕ} {u : Unit {0}} → Ok u ≡ entry_checks text n → Passes text n
past {text} {n} e = passes text n e refl

pub returns-in_err-entry_checks : goal.returns-in_err-entry_checks
returns-in_err-entry_checks c =
    let p = err_from_is_err_and c.from_residual.result c.from_residual.ensures.1 in
    rw (p.1, p.2) (checks-refuse c.args.text.now c.args.work c.in_err-entry_checks.ensures)

pub read_rows-requires : goal.read_rows-requires
read_rows-requires c = let p = past c.in_ok-entry_checks.ensures in (p.short, c.requires)

pub returns-in_err-n : goal.returns-in_err-n
returns-in_err-n c =
    let a = c.args in
    let e = err_from_is_err_and c.from_residual-in_err-n.result c.from_residual-in_err-n.ensures.1 in
    rw (e.1, e.2)
    (read-refused a.text.now a.work (past c.in_ok-entry_checks.ensures) (turned_down a.text.now _ c.in_err-n.ensures))

pub count_below-requires : goal.count_below-requires
count_below-requires c = let r = stored c.args.text.now _ c.in_ok-n.ensures in (r.there, omega (arith, r.few))

pub returns : goal.returns
returns c =
    read_kept (past c.in_ok-entry_checks.ensures) (stored c.args.text.now _ c.in_ok-n.ensures) c.count_below.ensures
