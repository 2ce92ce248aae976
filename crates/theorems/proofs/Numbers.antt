-- The numbers that a caller is told are those of the table.
-- Assumes nothing.
use Prim.Native.Nat.{ℕ, zero, suc}
use mathlib.Core.Path.{◌≡◌, refl}
use mathlib.Core.List.{List, [], ◌∷◌, map}
use Rattle.std.specs.Prelude.{Option, None, Some}
use mathlib.Core.Logic.{inl, inr}
use Rattle.definition.specs.declared.Refusal.{Refusal}
use Rattle.definition.specs.Demand.{Among}
use Rattle.theorems.specs.Numbers.{refusals, refusal_of, RefusalNumbers, KindNumbers, Limits}

-- the refusal of number i in a list is among it
abbrev nth : ℕ → List Refusal → Option Refusal
nth i [] = None
nth zero (r ∷ rs) = Some r
nth (suc i) (r ∷ rs) = nth i rs

found : (rs : List Refusal) (i : ℕ) {r : Refusal} → nth i rs ≡ Some r → Among r rs
found [] i h = absurd (cc)
found (x ∷ rs) zero h = inl (cc)
found (x ∷ rs) (suc i) h = inr (found rs i h)

all : (r : Refusal) → (p : ℕ) × (n : ℕ) × Among r (map refusal_of (refusals p n))
all Refusal.TextTooLong = (0, 0, found (map refusal_of (refusals 0 0)) 0 refl)
all (Refusal.WideByte p) = (p, 0, found (map refusal_of (refusals p 0)) 1 refl)
all Refusal.WorkTooShort = (0, 0, found (map refusal_of (refusals 0 0)) 2 refl)
all (Refusal.BadLevel p) = (p, 0, found (map refusal_of (refusals p 0)) 3 refl)
all (Refusal.BadCount p) = (p, 0, found (map refusal_of (refusals p 0)) 4 refl)
all (Refusal.BadBound p) = (p, 0, found (map refusal_of (refusals p 0)) 5 refl)
all (Refusal.NoDependingName p) = (p, 0, found (map refusal_of (refusals p 0)) 6 refl)
all (Refusal.TooManyStatements p) = (p, 0, found (map refusal_of (refusals p 0)) 7 refl)
all (Refusal.TooDeep p) = (p, 0, found (map refusal_of (refusals p 0)) 8 refl)
all (Refusal.NoPicture p) = (p, 0, found (map refusal_of (refusals p 0)) 9 refl)
all (Refusal.UnclosedRepeat p) = (p, 0, found (map refusal_of (refusals p 0)) 10 refl)
all (Refusal.BadRepeat p) = (p, 0, found (map refusal_of (refusals p 0)) 11 refl)
all (Refusal.TooManySymbols p) = (p, 0, found (map refusal_of (refusals p 0)) 12 refl)
all (Refusal.BadSymbol p) = (p, 0, found (map refusal_of (refusals p 0)) 13 refl)
all (Refusal.MixedPicture p) = (p, 0, found (map refusal_of (refusals p 0)) 14 refl)
all (Refusal.TooLong p) = (p, 0, found (map refusal_of (refusals p 0)) 15 refl)
all (Refusal.NoTarget p) = (p, 0, found (map refusal_of (refusals p 0)) 16 refl)
all (Refusal.TooLarge p) = (p, 0, found (map refusal_of (refusals p 0)) 17 refl)
all (Refusal.StartsBeforeBase p) = (p, 0, found (map refusal_of (refusals p 0)) 18 refl)
all (Refusal.OutputTooShort n) = (0, n, found (map refusal_of (refusals 0 n)) 19 refl)
all Refusal.Overlaid = (0, 0, found (map refusal_of (refusals 0 0)) 20 refl)
all Refusal.OutsideRecord = (0, 0, found (map refusal_of (refusals 0 0)) 21 refl)
all Refusal.RecordTooShort = (0, 0, found (map refusal_of (refusals 0 0)) 22 refl)
all (Refusal.UnclosedLiteral p) = (p, 0, found (map refusal_of (refusals p 0)) 23 refl)
all (Refusal.BadIndicator p) = (p, 0, found (map refusal_of (refusals p 0)) 24 refl)
all (Refusal.FloatWithPicture p) = (p, 0, found (map refusal_of (refusals p 0)) 25 refl)
all Refusal.NoSuchEntry = (0, 0, found (map refusal_of (refusals 0 0)) 26 refl)
all Refusal.NotASet = (0, 0, found (map refusal_of (refusals 0 0)) 27 refl)
all Refusal.NoCommonKey = (0, 0, found (map refusal_of (refusals 0 0)) 28 refl)
all Refusal.WrongItems = (0, 0, found (map refusal_of (refusals 0 0)) 29 refl)
all Refusal.BadWeight = (0, 0, found (map refusal_of (refusals 0 0)) 30 refl)
all Refusal.NoBudget = (0, 0, found (map refusal_of (refusals 0 0)) 31 refl)

pub refusal_numbers : RefusalNumbers
refusal_numbers = record { each = λ p n. refl; all = all }

pub kind_numbers : KindNumbers
kind_numbers =
    record {
      text = refl;
      int = λ _ _. refl;
      binary = λ _. refl;
      decimal = λ _ _ _ _. refl;
      edited = λ _ _ _. refl;
      group = refl;
      float = λ _. refl;
      signs = refl;
      storages = refl;
    }

pub limits : Limits
limits =
    record {
      text = refl;
      work = refl;
      statements = refl;
      levels = refl;
      symbols = refl;
      digits = refl;
      mask = refl;
      record-length = refl;
      count = refl;
      items = refl;
      least-weight = refl;
      most-weight = refl;
      smallest-set = refl;
      largest-set = refl;
    }
