-- The fields of a record, by its kept statements: which root is dropped, when the record is overlaid, and what SYNC
-- aligns.
-- Assumes nothing.
use Rattle.std.specs.Prelude.{ℕ, ◌<◌, ◌≡◌, Bool, true, false, ◌&&◌, List, [], ◌∷◌, ◌⊎◌, map, ltb, if◌then◌else◌}
use Rattle.definition.specs.declared.FieldKind.{FieldKind}
use Rattle.definition.specs.declared.Clauses.{Clauses}
use Rattle.definition.specs.declared.Pictured.{Pictured}
use Rattle.definition.specs.declared.Statement.{Statement}
use Rattle.definition.specs.Basic.{is_given, Ok}
use Rattle.definition.specs.Tree.{Forest, leaf, item, forest}
use Rattle.definition.specs.Usages.{inherit_along}
use Rattle.definition.specs.Storage.{is_aligned}
use Rattle.definition.specs.Owner.{overlaid}
use Rattle.definition.specs.Calls.{kept_statements}
use Rattle.definition.specs.Demand.{Among}

-- ---------------------------------------------------------------- the root

abbrev pub all_above : ℕ → List Statement → Bool
all_above n [] = true
all_above n (s ∷ ss) = ltb n s.level && all_above n ss

-- the first statement is dropped where others follow and the levels of all of them are above its own
abbrev pub without_root : List Statement → List Statement
without_root [] = []
without_root (s ∷ []) = s ∷ []
without_root (s ∷ t ∷ ss) = if all_above s.level (t ∷ ss) then t ∷ ss else s ∷ t ∷ ss

abbrev pub clauses_of : Statement → Clauses
clauses_of s = s.clauses

abbrev pub Overlays : Clauses → Type 0
Overlays c = (0 < c.redefines.len) ⊎ (0 < c.depending.len)

-- the fields of the record of a copybook: of the kept statements, with the usages that hold for them, without that
-- root; the record is overlaid if and only if one of them has a REDEFINES or a DEPENDING ON
pub record FieldsOf (text : List ℕ) (f : Forest) : Type 0 where
  pub statements : List Statement
  pub kept : kept_statements text ≡ Ok statements
  pub fields : f ≡ forest (without_root (inherit_along [] 0 statements))
  pub by-one : overlaid f ≡ true → (c : Clauses) × Among c (map clauses_of (without_root statements)) × Overlays c
  pub by-none : overlaid f ≡ false → (c : Clauses) → Among c (map clauses_of (without_root statements)) → Overlays c → ⊥

-- ---------------------------------------------------------------- SYNC

abbrev pub BinaryOrFloat : FieldKind → Type 0
BinaryOrFloat FieldKind.Text = ⊥
BinaryOrFloat (FieldKind.Int signed sign) = ⊥
BinaryOrFloat (FieldKind.Binary signed) = Unit {0}
BinaryOrFloat (FieldKind.Decimal precision scale repr sign) = ⊥
BinaryOrFloat (FieldKind.Edited precision scale signed) = ⊥
BinaryOrFloat FieldKind.Group = ⊥
BinaryOrFloat (FieldKind.Float bits) = Unit {0}

-- an elementary item is aligned if and only if it has SYNC and no REDEFINES and is binary or a float; a group never
pub record AlignedBySync (text : List ℕ) (s : Statement) (c : Pictured) : Type 0 where
  pub only :
      is_aligned text s leaf ≡ true →
      (s.clauses.sync ≡ true) × (is_given s.clauses.redefines ≡ false) × BinaryOrFloat c.kind
  pub each :
      s.clauses.sync ≡ true →
      is_given s.clauses.redefines ≡ false →
      BinaryOrFloat c.kind →
      is_aligned text s leaf ≡ true
  pub no-group : (t : Statement) (kids later : Forest) → is_aligned text s (item t kids later) ≡ false
