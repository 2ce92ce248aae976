-- The alignments of items: a picture that makes an item binary gives it 2, 4 or 8 bytes, and a float has 4 or 8. So the
-- alignment of an item, and the largest in a list, is 1, 2, 4 or 8, and that of an item divides those around it.
-- Assumes nothing.
use Prim.Native.Nat.{ℕ, max, ◌∣◌}
use mathlib.Core.Path.{◌≡◌}
use mathlib.Core.Bool.{Bool, true}
use mathlib.Core.List.{List}
use mathlib.Core.Logic.{inl}
use native.Mathlib.Omega.{arith}
use native.Mathlib.Nat.{dvd_trans}
use Rattle.definition.specs.declared.Usage.{Usage}
use Rattle.definition.specs.declared.ItemUsage.{ItemUsage}
use Rattle.definition.specs.declared.SignKind.{SignKind}
use Rattle.definition.specs.declared.Digits.{Digits}
use Rattle.definition.specs.declared.Pictured.{Pictured}
use Rattle.definition.specs.declared.Statement.{Statement}
use Rattle.std.specs.Prelude.{Option, refl}
use Rattle.definition.specs.Basic.{and_then}
use Rattle.definition.specs.Statement.{usage_of}
use Rattle.definition.specs.Tree.{Forest, leaf, item}
use Rattle.definition.specs.Picture.{pictured, is_alignable}
use Rattle.definition.specs.Picture.{storage_width, numeric, kinded}
use Rattle.definition.specs.Picture.{picture}
use Rattle.definition.specs.Storage.{under_usage, or_none, storage, place_alignment, alignment, width_alignment}
use Rattle.definition.proofs.Alignment.{Aligning, aligning-max, divides-left, divides-right}

-- if SYNC aligns it, its width is an alignment
abbrev pub Sized : Pictured → Type 0
Sized c = is_alignable c.kind ≡ true → Aligning c.width

numeric-sized :
    (u : Usage) (sign : SignKind) (precision scale digits : ℕ) (signed : Bool) →
    (d : Option Digits) →
    Sized (pictured (numeric u precision scale signed sign) d (storage_width u sign digits))
numeric-sized u sign precision scale digits signed d = grind arith

kinded-sized : (u : Usage) (c : Option SignKind) (l : List ℕ) → Sized (kinded u c l)
unfolding kinded
kinded-sized u c l = grind (arith, numeric-sized)

under-sized : (text : List ℕ) (s : Statement) (u : ItemUsage) → Sized (or_none (under_usage text s u))
unfolding picture and_then
under-sized text s u = grind (arith, kinded-sized)

-- an elementary item that SYNC aligns has such a width
pub storage-sized : (text : List ℕ) (s : Statement) → Sized (storage text s)
storage-sized text s = under-sized text s (usage_of s.usage)

module _ (text : List ℕ) where
  pub place-aligning : (s : Statement) (kids : Forest) → Aligning (place_alignment text s kids)
  place-aligning s kids = grind (arith, storage-sized)

  pub list-aligning : (f : Forest) → Aligning (alignment text f)
  unfolding alignment
  list-aligning leaf = inl refl
  list-aligning (item s kids later) =
      let more = max (alignment text kids) (alignment text later) in
      aligning-max (place_alignment text s kids) more (place-aligning s kids)
      (aligning-max (alignment text kids) (alignment text later) (list-aligning kids) (list-aligning later))

  pub width-aligning : (s : Statement) (kids : Forest) → Aligning (width_alignment text s kids)
  width-aligning s kids = grind (arith, list-aligning kids)

  -- an elementary item has no slack at its end
  pub leaf-wide : (s : Statement) → width_alignment text s leaf ≡ 1
  unfolding alignment
  leaf-wide s = grind arith

  -- what a list's alignment divides, those in it divide
  module _ (s : Statement) (kids later : Forest) (d : ℕ) (h : alignment text (item s kids later) ∣ d) where
    abbrev more : ℕ
    more = max (alignment text kids) (alignment text later)

    more-aligning : Aligning more
    more-aligning = aligning-max (alignment text kids) (alignment text later) (list-aligning kids) (list-aligning later)

    more-divides : more ∣ d
    unfolding alignment
    more-divides =
        dvd_trans more (divides-right (place_alignment text s kids) more (place-aligning s kids) more-aligning) h

    pub place-divides : place_alignment text s kids ∣ d
    unfolding alignment
    place-divides =
        dvd_trans (place_alignment text s kids)
        (divides-left (place_alignment text s kids) more (place-aligning s kids) more-aligning) h

    pub kids-divide : alignment text kids ∣ d
    kids-divide =
        dvd_trans (alignment text kids)
        (divides-left (alignment text kids) (alignment text later) (list-aligning kids)
        (list-aligning later)) more-divides

    pub later-divide : alignment text later ∣ d
    later-divide =
        dvd_trans (alignment text later)
        (divides-right (alignment text kids) (alignment text later) (list-aligning kids)
        (list-aligning later)) more-divides
