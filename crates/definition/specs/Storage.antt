-- What an item takes: kind and width of an elementary item, by its picture or as a float (COMP-1 takes 4 bytes, COMP-2
-- takes 8), and alignment: what the place of an item in the record is a multiple of, and what the width of a group is.
-- Departures from COBOL: 8-byte binary items align to 8, IBM's to 4; a REDEFINES is not aligned; the width of a group
-- with DEPENDING ON is no multiple of anything, so that its later occurrences may not be aligned.
-- Assumes nothing.
use Rattle.std.specs.Prelude.{ℕ, ◌*◌, max, Bool, true, false, ◌&&◌, not, List, if◌then◌else◌, Option, None, Some}
use Rattle.definition.specs.declared.Usage.{Usage}
use Rattle.definition.specs.declared.ItemUsage.{ItemUsage}
use Rattle.definition.specs.declared.FieldKind.{FieldKind}
use Rattle.definition.specs.declared.Pictured.{Pictured}
use Rattle.definition.specs.declared.Statement.{Statement}
use Rattle.definition.specs.declared.Refusal.{Refusal}
use Rattle.definition.specs.Basic.{is_given, part, Answer, Err, Ok, ◌>>=◌, refuse_if}
use Rattle.definition.specs.Statement.{sign_of, usage_of}
use Rattle.definition.specs.Tree.{Forest, leaf, item}
use Rattle.definition.specs.Picture.{pictured, is_alignable, picture}

-- ---------------------------------------------------------------- elementary items

-- kind and width by the picture, which must be there (21): it says them (22 to 27)
abbrev pub by_picture : List ℕ → Statement → Usage → Answer Pictured
by_picture text s usage = do
  _ ← refuse_if (not (is_given s.clauses.picture)) (Refusal.NoPicture s.at)
  picture s.at usage (sign_of s.clauses.sign) (part text s.clauses.picture)

-- a float of so many bytes, which has no picture (52)
abbrev pub float : Statement → ℕ → Answer Pictured
float s width = do
  _ ← refuse_if (is_given s.clauses.picture) (Refusal.FloatWithPicture s.at)
  Ok (pictured (FieldKind.Float (8 * width)) None width)

-- kind and width of an elementary item, by a usage
abbrev pub under_usage : List ℕ → Statement → ItemUsage → Answer Pictured
under_usage text s (ItemUsage.Picture usage) = by_picture text s usage
under_usage text s ItemUsage.Comp1 = float s 4
under_usage text s ItemUsage.Comp2 = float s 8

-- by the usage that holds for it
abbrev pub elementary : List ℕ → Statement → Answer Pictured
elementary text s = under_usage text s (usage_of s.usage)

-- none is refused in an accepted copybook
abbrev pub or_none : Answer Pictured → Pictured
or_none (Err r) = pictured FieldKind.Text None 0
or_none (Ok c) = c

abbrev pub storage : List ℕ → Statement → Pictured
storage text s = or_none (elementary text s)

-- ---------------------------------------------------------------- alignment

-- an aligned item: an elementary SYNC binary or float item without REDEFINES
abbrev pub is_aligned : List ℕ → Statement → Forest → Bool
is_aligned text s leaf = s.clauses.sync && not (is_given s.clauses.redefines) && is_alignable (storage text s).kind
is_aligned text s (item t kids later) = false

-- the place of an aligned item in the record is a multiple of its width, that of any other of 1
abbrev pub place_alignment : List ℕ → Statement → Forest → ℕ
place_alignment text s kids = if is_aligned text s kids then (storage text s).width else 1

-- the largest alignment in a list, at any depth
unfoldable pub alignment : List ℕ → Forest → ℕ
alignment text leaf = 1
alignment text (item s kids later) =
    max (place_alignment text s kids) (max (alignment text kids) (alignment text later))

-- OCCURS is given, OCCURS 0 and OCCURS 1 included
abbrev pub repeats : Option ℕ → Bool
repeats None = false
repeats (Some n) = true

-- the width of a group with OCCURS and without DEPENDING ON is a multiple of the largest alignment in it, that of any
-- other item of 1
abbrev pub width_alignment : List ℕ → Statement → Forest → ℕ
width_alignment text s kids =
    if repeats s.clauses.occurs && not (is_given s.clauses.depending) then alignment text kids else 1
