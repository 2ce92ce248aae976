-- `record::lay_fields` meets its contract: the list that was laid, then its two checks.
use Rattle.rows.specs.declared.Row.{Row}
use Prim.Native.Nat.{ℕ, ◌≤◌}
use mathlib.Core.List.{List}
use mathlib.Core.Path.{sym}
use Rattle.std.proofs.Common.{◌≡◌, refl, arith}
use Rattle.std.proofs.lemmas.Result.{err_from_is_err_and}
use Rattle.definition.specs.Basic.{Answer}
use Rattle.layout.specs.Outcomes.{ready, lay_table, Room}
use Rattle.layout.specs.declared.LaidList.{LaidList}
use Rattle.layout.proofs.LayLaws.{LaidRows, laid-rows}
use Rattle.fold.proofs.ListedLaws.{table-long, table-ends}
use Rattle.layout.specs.Marks.{UnionsLinked}
use Rattle.layout.specs.Shown.{Tree}
use Rattle.layout.proofs.KeptLaws.{Ready, unlinked, marked-tree}
use Rattle.record.proofs.LaidLaws.{laid-ready, fields-refused, fold-refused, end_refused, laid-listed}
use Rattle.record.proofs.lay_fields.Goals as goal

-- what was laid
module _
    {text : List ℕ} {w : List Row} {from to : ℕ} (r : LaidList) {w₁ : List Row} (h : from ≤ to) (room : Room text w from to)
    (p : ready r.width r.alignment r.checked w₁ ≡ lay_table text w from to 0 0)
  where
    laid : LaidRows text w from to 0 0 r w₁
    laid = laid-rows text w from to 0 0 (sym p)

    -- its rows can be linked
    to-link : Ready text w₁ from to
    to-link = laid-ready text w from to 0 0 h room laid

    linked : {w₂ : List Row} → UnionsLinked w₁ from to w₂ → Tree text w₂ from to
    linked = marked-tree text from to h to-link

pub returns-in_err-list : goal.returns-in_err-list
returns-in_err-list c =
    let a = c.args in
    let p = err_from_is_err_and c.from_residual.result c.from_residual.ensures.1 in
    rw (p.1, p.2) (fields-refused a.text.now a.rows.now a.from a.to c.requires.5 c.in_err-list.ensures)

pub returns-in_err-list-2 : goal.returns-in_err-list-2
returns-in_err-list-2 c =
    let a = c.args in
    let n = laid c.in_ok-list.list c.requires.0 c.requires.1 c.in_ok-list.ensures in
    let p = err_from_is_err_and c.from_residual-in_err-list-2.result c.from_residual-in_err-list-2.ensures.1 in
    rw (p.1, p.2) (fold-refused a.text.now a.rows.now a.from a.to c.requires.5 c.requires.0 c.requires.1 n c.in_err-list-2.was)

pub link_unions-requires : goal.link_unions-requires
link_unions-requires c =
    let a = c.args in
    unlinked a.text.now a.from a.to c.requires.0 (to-link c.in_ok-list.list c.requires.0 c.requires.1 c.in_ok-list.ensures) c.requires.2

pub new-fields-requires : goal.new-fields-requires
new-fields-requires c =
    rw (c.new-laid.ensures.0, c.new-laid.ensures.1)
    (linked c.in_ok-list.list c.requires.0 c.requires.1 c.in_ok-list.ensures c.link_unions.ensures)

pub returns-in_err-length : goal.returns-in_err-length
returns-in_err-length c =
    let a = c.args in
    let n = laid c.in_ok-list.list c.requires.0 c.requires.1 c.in_ok-list.ensures in
    let p = err_from_is_err_and c.from_residual-in_err-length.result c.from_residual-in_err-length.ensures.1 in
    let f = c.new-fields.ensures in
    let entered = rw (f.0, f.1, f.2, c.new-laid.ensures.1) at c.make_entries-made.ensures.entered in
    let ends = table-ends entered (sym c.in_err-length.ensures) in
    rw (p.1, p.2)
    (end_refused a.text.now a.rows.now a.from a.to c.requires.5 c.requires.0 c.requires.1 n c.in_ok-list-2.was c.link_unions.ensures
    (rw c.new-laid.ensures.0 at ends) refl)

pub returns : goal.returns
returns c =
    let a = c.args in
    let n = laid c.in_ok-list.list c.requires.0 c.requires.1 c.in_ok-list.ensures in
    let made = c.make_entries-made.ensures in
    let f = c.new-fields.ensures in
    let entered = rw (f.0, f.1, f.2, c.new-laid.ensures.1) at made.entered in
    let ends = table-ends entered (sym c.in_ok-length.ensures.1) in
    let long = table-long entered c.in_ok-length.ensures.0 in
    record {
      inside = made.inside;
      laid =
          record {
            fits = omega (arith, c.requires.1.fits, c.link_unions.auto.rows, c.lay_list.auto.rows);
            listed =
                laid-listed a.text.now a.rows.now a.from a.to c.requires.5 c.requires.0 c.requires.1 n c.in_ok-list-2.was c.link_unions.ensures
                (rw c.new-laid.ensures.0 at ends) refl c.requires.2 c.requires.4 (rw c.new-laid.ensures.0 at long);
            entered = rw c.new-laid.ensures.0 at entered;
            tops = rw (f.0, f.1, f.2, c.new-laid.ensures.0, c.new-laid.ensures.1) at made.count;
          };
    }
