-- Laws of the parts of the listing and of an entry, as they are put.
-- Assumes nothing.
use Prim.Native.Nat.{ℕ, ◌+◌, ◌≤◌}
use mathlib.Core.Path.{◌≡◌, refl, ap}
use mathlib.Core.List.{◌++◌}
use native.Mathlib.Omega.{arith}
use lib.ListN.{length, length-append}
use Rattle.definition.specs.declared.Entry.{Entry}
use Rattle.definition.specs.declared.FieldKind.{FieldKind}
use Rattle.definition.specs.Fold.{Entries}
use Rattle.definition.specs.Record.{record_length, variable}
use Rattle.definition.specs.Listing.{members#, span_bytes, occurs_bytes, details, entry_bytes, entries_bytes, listing}
use Rattle.definition.proofs.ListingLaws.{details#, entry_length}
use Rattle.output.specs.Puts.{Countable}
use Rattle.fold.specs.Puts.{head_bytes, place_bytes, line_of, line_bytes}
use Rattle.fold.specs.declared.listing.Line.{Line}

-- ---------------------------------------------------------------- the listing's parts

-- the most that a kind adds
pub details-most : (k : FieldKind) → details# k ≤ 11
details-most FieldKind.Text = omega arith
details-most (FieldKind.Int signed sign) = omega arith
details-most (FieldKind.Binary signed) = omega arith
details-most (FieldKind.Decimal precision scale repr sign) = omega arith
details-most (FieldKind.Edited precision scale signed) = omega arith
details-most FieldKind.Group = omega arith
details-most (FieldKind.Float bits) = omega arith

module _ (l : Line) (n : ℕ) where
  -- the parts of what is said of an entry, in the order in which they are put
  pub line-parts :
      line_bytes l n
      ≡ place_bytes l ++ occurs_bytes l.occurs ++ span_bytes l.depending ++ span_bytes l.redefines
      ++ details l.kind l.picture n
  unfolding line_bytes
  line-parts = refl

  -- how many bytes the parts have
  pub line_sizes :
      length (line_bytes l n) ≡ 33 + length (occurs_bytes l.occurs) + length (details l.kind l.picture n)
  line_sizes = rw line-parts (simp length-append (omega arith))

module _ (e : Entry) (n : ℕ) where
  -- an entry is what is said of it
  pub entry-line : entry_bytes e n ≡ line_bytes (line_of e) n
  unfolding entry_bytes line_bytes
  entry-line = refl

  -- it can be counted from any place that four bytes hold
  pub entry-countable : (at : ℕ) → at ≤ 4294967295 → Countable at (line_bytes (line_of e) n)
  entry-countable at h = omega (arith, ap length entry-line, entry_length e n, details-most e.kind)

-- the listing is the record's head, then the entries
pub listing-parts : (es : Entries) → listing es ≡ head_bytes (record_length es) (variable es) (members# es) ++ entries_bytes es
unfolding listing
listing-parts es = refl
