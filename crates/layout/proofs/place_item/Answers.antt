-- `layout::place_item` meets its contract.
use Prim.Native.Nat.{ℕ, ◌+◌, ◌-◌, max}
use mathlib.Core.Path.{◌≡◌, sym, ap, ◌∙◌}
use mathlib.Core.List.{List}
use lib.ListN.{set}
use Rattle.definition.specs.declared.Refusal.{Refusal}
use Rattle.definition.specs.declared.Entry.{Entry}
use Rattle.definition.specs.declared.Statement.{Statement}
use Rattle.definition.specs.declared.Pictured.{Pictured}
use Rattle.std.specs.Prelude.{if◌then◌else◌}
use Rattle.definition.specs.Basic.{is_given, fewest, Err, Ok}
use Rattle.definition.specs.Layout.{slack_from, entry_of, too_large}
use Rattle.definition.proofs.Answers.{handed_on}
use Rattle.rows.specs.declared.Row.{Row}
use Rattle.rows.specs.Rows.{statement_at, row_in}
use Rattle.layout.specs.Places.{placed}
use Rattle.layout.specs.Ends.{end_of}
use Rattle.layout.specs.Bare.{place_multiple, width_multiple}
use Rattle.layout.specs.declared.Beginning.{Beginning}
use Rattle.layout.specs.declared.LaidList.{LaidList}
use Rattle.layout.specs.Outcomes.{halted, placing, after_own, place_row}
use Rattle.layout.proofs.EndLaws.{ends_at}
use Rattle.layout.proofs.ItemLaws.{entry_made, placed-large, placed-fits}
use Rattle.layout.proofs.place_item.Goals as goal

module _ (w : List Row) (i last cursor : ℕ) (b : Beginning) (c : Pictured) (inner : LaidList) where
  abbrev own : Statement
  own = statement_at w i

  abbrev made : Entry
  made = entry_made own c cursor b.offset inner.width (width_multiple own inner.alignment)

  abbrev all : ℕ
  all = max (place_multiple own c) inner.alignment

  module _
      {multiple slack slack_at_end : ℕ} {d : Entry}
      (pm : multiple ≡ width_multiple own inner.alignment)
      (pl : slack ≡ slack_from cursor own b.offset)
      (pn : slack_at_end ≡ fewest multiple (c.width + inner.width))
      (pd : d ≡ entry_of own c b.offset slack inner.width slack_at_end) where
    is-made : d ≡ made
    is-made =
        pd
        ∙ ap (λ (n : ℕ). entry_of own c b.offset n inner.width slack_at_end) pl
        ∙ ap (entry_of own c b.offset (slack_from cursor own b.offset) inner.width) (pn ∙ ap (λ (n : ℕ). fewest n (c.width + inner.width)) pm)

    large : {r : Refusal} → Err r ≡ end_of d → halted r ≡ place_row w i last cursor b c inner
    large e =
        sym
        (ap (after_own w i last cursor b all)
        (placed-large own c cursor b.offset inner.width (width_multiple own inner.alignment) (e ∙ ap end_of is-made)))

    fits :
        {n m k : ℕ} →
        Ok n ≡ end_of d →
        m ≡ (if is_given own.clauses.redefines then cursor else n) →
        k ≡ all →
        placing m n k (set w i (placed (row_in w i) (i - last) b.base b.plain b.target d)) ≡ place_row w i last cursor b c inner
    fits e pm' pk =
        let z = ends_at d e in
        rw (pm', pk, ← z.is, is-made)
        (sym
        (ap (after_own w i last cursor b all)
        (placed-fits own c cursor b.offset inner.width (width_multiple own inner.alignment) (sym (ap too_large is-made) ∙ z.fits))))

pub returns-in_err-end : goal.returns-in_err-end
returns-in_err-end c =
    let a = c.args in
    rw (handed_on _ c.from_residual.ensures.1)
    (large a.rows.now a.i a.next.last a.next.cursor a.begun a.c a.inner c.width_multiple-multiple.ensures c.slack_to.ensures
    c.fewest.ensures c.entry_of-e.ensures c.in_err-end.ensures)

pub returns : goal.returns
returns c =
    let a = c.args in
    fits a.rows.now a.i a.next.last a.next.cursor a.begun a.c a.inner c.width_multiple-multiple.ensures c.slack_to.ensures
    c.fewest.ensures c.entry_of-e.ensures c.in_ok-end.ensures c.advanced.ensures
    (c.max.ensures ∙ ap (λ (n : ℕ). max n a.inner.alignment) c.place_multiple.ensures)
