-- `reasons::write_reasons` meets its contract: 53, or the chain of the row behind the entry.
use Prim.Native.Nat.{ℕ}
use mathlib.Core.Path.{◌≡◌, refl, sym, ap, ◌∙◌}
use mathlib.Core.List.{List, []}
use lib.ListN.{length}
use Rattle.std.proofs.lemmas.Option.{slice_get_past, slice_get_read}
use Rattle.std.proofs.lemmas.Result.{err_from_is_err_and}
use Rattle.std.specs.Result.{result_ok}
use Rattle.std.specs.Prelude.{Result, Err}
use Rattle.std.specs.Option.{ok_or}
use Rattle.definition.specs.declared.Refusal.{Refusal}
use Rattle.definition.specs.Basic.{Answer}
use Rattle.definition.specs.Calls.{after_writing}
use Rattle.reports.proofs.AnswerLaws.{past-listing, entry-chain}
use Rattle.reports.proofs.reasons.write_reasons.Goals as goal

-- what is told past the entries
same-refusal : {X : Type 0} {o : Result X Refusal} {e : Refusal} → o ≡ Err e → o ≡ Err Refusal.NoSuchEntry → e ≡ Refusal.NoSuchEntry
same-refusal p q = cc

pub returns-in_err-item : goal.returns-in_err-item
returns-in_err-item c =
    let none = c.ok_or.ensures.ok_part ∙ ap result_ok c.in_err-item.was in
    let past = rw none at c.get.ensures.lookup in
    let p = err_from_is_err_and c.from_residual.result c.from_residual.ensures.1 in
    rw (p.1, p.2)
    (ap (λ (r : Refusal). after_writing (Err r) c.args.out.now [])
    (same-refusal c.in_err-item.was (c.ok_or.ensures.value ∙ ap (λ o. ok_or o Refusal.NoSuchEntry) none))
    ∙ ap (λ (x : Answer (List ℕ)). after_writing x c.args.out.now [])
    (sym (past-listing c.requires c.args.number (length c.args.out.now) (slice_get_past c.args.laid.table.items.now c.args.number past.3))))

pub returns : goal.returns
returns c =
    let some = c.ok_or.ensures.ok_part ∙ ap result_ok c.in_ok-item.was in
    let item = rw some at c.get.ensures.lookup in
    c.write.ensures
    ∙ ap (λ (x : Answer (List ℕ)). after_writing x c.args.out.now [])
    (sym (entry-chain c.requires c.args.number (length c.args.out.now)
    (slice_get_read c.args.laid.table.items.now _ c.args.number _ refl item.3.0 item.1)))
