-- What the table says of the record: its bytes, whether it varies, its length and its ends; and the listing is the head
-- and then the entries.
-- Assumes nothing.
use Rattle.rows.specs.declared.Row.{Row}
use Prim.Native.Nat.{ℕ, ◌+◌, ◌≤◌, ◌<◌}
use mathlib.Core.Path.{◌≡◌, ◌∙◌, ap}
use mathlib.Core.Bool.{Bool}
use mathlib.Core.List.{List}
use native.Mathlib.Omega.{arith}
use lib.ListN.{length}
use Rattle.definition.specs.declared.TheConstants.{MOST_STATEMENTS}
use Rattle.std.specs.List.{list_any}
use Rattle.definition.specs.Basic.{Answer, is_given}
use Rattle.definition.specs.Listing.{members#, entries_bytes, listing}
use Rattle.definition.specs.Record.{record_length, variable, ends_fit}
use Rattle.layout.specs.Places.{rows_forest}
use Rattle.layout.proofs.EntriesLaws.{size-stretch}
use Rattle.output.specs.declared.Sink.{Sink}
use Rattle.output.specs.Puts.{Puts}
use Rattle.fold.specs.Puts.{head_bytes}
use Rattle.output.proofs.PutLaws.{◌and◌}
use Rattle.fold.proofs.PutLaws.{listing-parts}
use Rattle.layout.specs.Shown.{list_in}
use Rattle.layout.proofs.ShownLaws.{entries-size}
use Rattle.fold.specs.declared.table.TableEntry.{TableEntry}
use Rattle.fold.specs.Entered.{flat_bytes, flat_varies, flat_length, flat_fits, own_of, shown_all, Entered}
use Rattle.fold.specs.Entered.{listed}
use Rattle.fold.proofs.SizeLaws.{listing-few}
use Rattle.fold.proofs.LoopLaws.{varies_any}
use Rattle.fold.proofs.FlatLaws.{flat-bytes, flat-varies, flat-long, flat-fits}

module _ {text : List ℕ} {w : List Row} {from to : ℕ} {t : List TableEntry} (h : Entered text w from to t) where
  pub table-bytes : flat_bytes (shown_all w t) ≡ entries_bytes (listed text w from to)
  table-bytes = ap flat_bytes h.is ∙ flat-bytes (listed text w from to) 0

  pub table-varies : {v : Bool} → v ≡ list_any (λ x. is_given (own_of w x).depending) t → v ≡ variable (listed text w from to)
  table-varies e = e ∙ varies_any w t ∙ ap flat_varies h.is ∙ flat-varies (listed text w from to) 0

  pub table-long : {m : ℕ} → m ≡ flat_length (shown_all w t) → m ≡ record_length (listed text w from to)
  table-long e = e ∙ ap flat_length h.is ∙ flat-long (listed text w from to)

  pub table-ends : {c : Answer (Unit {0})} → ◌≡◌ {A = Answer (Unit {0})} c (flat_fits (shown_all w t)) → ◌≡◌ {A = Answer (Unit {0})} c (ends_fit (listed text w from to))
  table-ends e = e ∙ ap flat_fits h.is ∙ flat-fits (listed text w from to)

  pub table_fits : (at : ℕ) → to ≤ MOST_STATEMENTS → at ≤ 10 → at + length (flat_bytes (shown_all w t)) < 4294967296
  table_fits at few small =
      omega (arith, ap length table-bytes, listing-few text (list_in w from to), entries-size w (rows_forest w from to) from, size-stretch w from to)

  -- the head, and then the entries
  pub table-whole :
      {m : ℕ} {v : Bool} {c : ℕ} →
      m ≡ record_length (listed text w from to) →
      v ≡ list_any (λ x. is_given (own_of w x).depending) t →
      c ≡ members# (listed text w from to) →
      {s s' s'' : Sink} →
      Puts s (head_bytes m v c) s' →
      Puts s' (flat_bytes (shown_all w t)) s'' →
      Puts s (listing (listed text w from to)) s''
  table-whole p q r a b = rw (listing-parts (listed text w from to), ← p, ← table-varies q, ← r, ← table-bytes) (a and b)
