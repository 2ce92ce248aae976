-- `redefines::FingerprintedRows::target_of` meets its contract: where there is a name, what the search for it found.
use Prim.Native.Nat.{ℕ, ◌≤◌}
use mathlib.Core.Path.{◌≡◌}
use mathlib.Core.Bool.{Bool, true, false}
use mathlib.Core.List.{List}
use Rattle.definition.specs.declared.Span.{Span}
use Rattle.definition.specs.Basic.{is_given}
use Rattle.rows.specs.declared.Row.{Row}
use Rattle.rows.specs.Rows.{row_of_code}
use Rattle.layout.specs.declared.redefines.SearchEnd.{SearchEnd}
use Rattle.layout.specs.Targets.{Ended, seen_at, search_of, target_search, target_from}
use Rattle.layout.proofs.SearchLaws.{searched, row-most}
use Rattle.layout.proofs.redefines.FingerprintedRows.target_of.Goals as goal

module _ (t : List ℕ) (w : List Row) (s : Span) (last : ℕ) {g : Bool} (e : g ≡ is_given s) (is : g ≡ true) where
  counted : {r : SearchEnd} → Ended t s false w last r → search_of w r ≡ target_search t s (seen_at w last)
  counted p = rw (← e, is) (searched t w s last p)

  named : {r : SearchEnd} → Ended t s false w last r → r.row ≡ row_of_code (target_from t s w last)
  named p = rw (← e, is) p.row

  low : target_from t s w last ≤ last
  low = rw (← e, is) (row-most t w s false last last)

pub returns-then-is_given : goal.returns-then-is_given
returns-then-is_given c = (search counted, search named, search low)
