-- Laws of the listing of a record in the table: how many bytes it has, its parts, and what the output holds after it.
-- Assumes nothing.
use Rattle.rows.specs.declared.Row.{Row}
use Prim.Native.Nat.{ℕ, ◌+◌, ◌*◌, ◌≤◌}
use mathlib.Core.Path.{ap}
use mathlib.Core.List.{List}
use native.Mathlib.Omega.{arith}
use lib.ListN.{length, length-append}
use Rattle.definition.specs.Listing.{members#, entries_bytes}
use Rattle.definition.specs.Record.{record_length, variable}
use Rattle.layout.specs.Places.{rows_forest}
use Rattle.layout.proofs.EntriesLaws.{size-stretch}
use Rattle.fold.proofs.SizeLaws.{listing-few}
use Rattle.fold.specs.Puts.{head_bytes}
use Rattle.fold.proofs.PutLaws.{listing-parts}
use Rattle.layout.specs.Shown.{list_in}
use Rattle.layout.proofs.ShownLaws.{entries-size}
use Rattle.reports.specs.Listed.{entries_of, listing_of}

-- a listing has at most 98 bytes for each row, and its head
pub listing-most : (text : List ℕ) (w : List Row) (from to : ℕ) → length (listing_of text w from to) ≤ 98 * to + 10
listing-most text w from to =
    let es = entries_of text w from to in
    omega (
      arith,
      ap length (listing-parts es),
      length-append (head_bytes (record_length es) (variable es) (members# es)) (entries_bytes es),
      listing-few text (list_in w from to),
      entries-size w (rows_forest w from to) from,
      size-stretch w from to,
    )
