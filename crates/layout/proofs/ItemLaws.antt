-- Laws of one item: its entry, or 29.
-- Assumes nothing.
use Prim.Native.Nat.{ℕ, ◌+◌}
use mathlib.Core.Path.{◌≡◌}
use mathlib.Core.Bool.{false}
use Rattle.definition.specs.declared.Entry.{Entry}
use Rattle.definition.specs.declared.Refusal.{Refusal}
use Rattle.definition.specs.declared.Statement.{Statement}
use Rattle.definition.specs.declared.Pictured.{Pictured}
use Rattle.definition.specs.Basic.{fewest, Err, Ok, and_then}
use Rattle.definition.specs.Layout.{slack_from, entry_of, too_large}
use Rattle.layout.specs.Ends.{end_of}
use Rattle.layout.proofs.EndLaws.{ends-not}
use Rattle.layout.specs.Bare.{placed_entry}

module _ (s : Statement) (c : Pictured) (cursor offset inner multiple : ℕ) where
  abbrev pub entry_made : Entry
  entry_made = entry_of s c offset (slack_from cursor s offset) inner (fewest multiple (c.width + inner))

  pub placed-large :
      {r : Refusal} → Err r ≡ end_of entry_made → placed_entry s c cursor offset inner multiple ≡ Err r
  unfolding placed_entry and_then
  placed-large {r} l =
      let x = ends-not entry_made l in
      let same : r ≡ Refusal.TooLarge s.at = cc x.0 in
      rw (x.1, same)

  pub placed-fits : too_large entry_made ≡ false → placed_entry s c cursor offset inner multiple ≡ Ok entry_made
  unfolding placed_entry and_then
  placed-fits l = rw l
