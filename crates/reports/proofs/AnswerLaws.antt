-- The answer of the reasons of an entry, by the rows and the table of a record; and what a laid record has for it.
-- Assumes nothing.
use Prim.Native.Nat.{ℕ, suc, ◌+◌, ◌-◌, ◌≤◌, ◌<◌}
use mathlib.Core.Path.{◌≡◌, sym, ap, subst, ◌∙◌}
use mathlib.Core.List.{List, []}
use Rattle.std.specs.Prelude.{Option, None, Some}
use native.Mathlib.Omega.{arith}
use Rattle.definition.specs.declared.Entry.{Entry}
use Rattle.definition.specs.declared.Reason.{Reason}
use Rattle.definition.specs.declared.Statement.{Statement}
use Rattle.definition.specs.declared.Refusal.{Refusal}
use Rattle.definition.specs.Basic.{Err, Answer, Ok, ◌>>=◌, and_then, or_refuse, is_given}
use Rattle.definition.specs.Tree.{Forest, leaf, item, fields, root}
use Rattle.definition.specs.Record.{unfolded}
use Rattle.definition.specs.Owner.{size}
use Rattle.definition.specs.declared.Report.{Report}
use Rattle.definition.specs.Calls.{record_tree, record_fields, fitting, report}
use Rattle.definition.specs.Demand.{Among}
use Rattle.definition.specs.Reasons.{Chain, chain, chains, chain_at, reasons_in, reasons_bytes}
use Rattle.definition.proofs.Begins.{Rises, fields-begin}
use Rattle.definition.proofs.Why.{went, chains-begin, chain-of}
use Rattle.rows.specs.declared.Row.{Row}
use Rattle.rows.specs.Rows.{row_in}
use Rattle.layout.specs.Places.{rows_forest}
use Rattle.layout.proofs.EntriesLaws.{Rows, rows-forest, size-stretch}
use Rattle.layout.specs.Shown.{list_in}
use Rattle.layout.proofs.ShownLaws.{marked-linked}
use Rattle.std.specs.List.{slice_get}
use Rattle.std.specs.Option.{option_map}
use Rattle.fold.specs.declared.table.TableEntry.{TableEntry}
use Rattle.fold.specs.Entered.{own_of}
use Rattle.record.specs.Laying.{Listed}
use Rattle.record.proofs.LaidLaws.{listed-fields}
use Rattle.reports.specs.Chained.{chain_of, Settled, ChainedTable}
use Rattle.reports.proofs.ChainLaws.{seen_none, row_chains, Redefining, ListExplained, list-explained, settled_at}
use Rattle.reports.proofs.ChainLaws.{chain-among}
use Rattle.reports.proofs.OutwardLaws.{outward-none}
use Rattle.reports.proofs.NumberLaws.{entered-numbered, own-begins, row_inside}

-- ---------------------------------------------------------------- the answer

module _ {text : List ℕ} {w : List Row} {t : List TableEntry} {from to : ℕ} (h : ChainedTable text w t from to) (number room : ℕ) where
  -- what is answered of it
  abbrev answer : Answer (List ℕ)
  answer =
      report (Report.Reasons number) room text (root (rows_forest w 0 to)) (rows_forest w from to) (list_in w from to)

  -- 53
  pub past-listing : slice_get t number ≡ None → answer ≡ Err Refusal.NoSuchEntry
  unfolding report reasons_in and_then
  past-listing e = rw (entered-numbered h.table number, e)

  -- the chain of the row behind the entry
  pub entry-chain :
      {x : TableEntry} → slice_get t number ≡ Some x → answer ≡ fitting room (reasons_bytes (chain_of w from x.row))
  unfolding report reasons_in and_then
  entry-chain {x} e =
      let inside = row_inside h.table number x e in
      rw (entered-numbered h.table number, e, own-begins w x, h.chained x.row inside.0 inside.1)

-- ---------------------------------------------------------------- a record that was laid

-- the rows hold the statements' REDEFINES
rows-redefine : (w : List Row) (f : Forest) (k : ℕ) → Rows w k f → Redefining w k f
rows-redefine w leaf k r = tt
rows-redefine w (item s kids later) k r = (
  ap (λ (x : Statement). is_given x.clauses.redefines) (sym r.0),
  rows-redefine w kids (suc k)
      r.1,
  rows-redefine w later (suc k + size kids) r.2,
)

module _ {text : List ℕ} {w : List Row} {from to long : ℕ} (work : ℕ)
    (l : Listed text (record_tree text work) w from to long) where
  fields-are : record_fields text work ≡ Ok (rows_forest w from to)
  unfolding record_fields and_then
  fields-are = ap (λ (a : Answer Forest). a >>= λ t. Ok (fields t)) l.tree_is ∙ ap Ok l.fields_are

  laid-is : unfolded text (rows_forest w from to) ≡ Ok (list_in w from to)
  laid-is = listed-fields l

  many : from + size (rows_forest w from to) ≡ to
  many = omega (arith, size-stretch w from to, l.low)

  explains : ListExplained text w from from from [] (rows_forest w from to)
  explains =
      list-explained text w from (rows_forest w from to) from 0 0 from []
      (marked-linked text w (rows_forest w from to) from 0 l.tree.marks)
      l.under
      (rows-redefine w (rows_forest w from to) from (rows-forest w from (to - from)))
      (went text (rows_forest w from to) (list_in w from to) laid-is).rules
      (seen_none text w)
      (omega arith)
      (omega arith)
      (omega arith)
      (omega (arith, many, l.few))

  chains-are : chains text [] [] (list_in w from to) ≡ row_chains text w from from (rows_forest w from to)
  chains-are =
      ap (λ (rs : List Reason). chains text rs [] (list_in w from to)) (sym (outward-none w from from (omega arith)))
      ∙ explains.same

  pub laid-settled : Settled w from to
  laid-settled =
      record {
        fits = l.tree.fits;
        few = l.few;
        rows = λ k a b. settled_at text w from (rows_forest w from to) from explains.settled k a
            (omega (arith, many));
      }

  pub laid-chained : (k : ℕ) → from ≤ k → k < to → chain_at (row_in w k).statement.at (chains text [] [] (list_in w from to))
      ≡ chain_of w from k
  laid-chained k a b =
      let f = rows_forest w from to in
      let tree = list_in w from to in
      let rise =
      subst (Rises 0) (sym (chains-begin text f tree 0 [] [] (went text f tree laid-is).rules))
      (fields-begin text work f fields-are) in
      let c = chain (row_in w k).statement.at (chain_of w from k) in
      chain-of text (chains text [] [] tree) 0 c rise
      (subst (λ (cs : List Chain). Among c cs) (sym chains-are)
      (chain-among text w from f from k a (omega (arith, many))))
