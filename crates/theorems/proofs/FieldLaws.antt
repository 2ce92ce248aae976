-- The fields of a record are the forest of its kept statements without a dropped root, and tell whether one of these has
-- a REDEFINES or a DEPENDING ON.
-- Assumes nothing.
use Prim.Native.Nat.{ℕ, zero, suc, ◌≤◌, ◌<◌}
use mathlib.Core.Path.{◌≡◌, refl, sym, ◌∙◌, ap, subst}
use mathlib.Core.Bool.{Bool, true, false, ◌||◌}
use mathlib.Core.List.{List, [], ◌∷◌, map}
use mathlib.Core.Logic.{inl, inr, ⊎_elim}
use native.Mathlib.Omega.{arith}
use lib.ListN.{length, take, drop}
use lib.Seq.{take_all}
use Rattle.std.specs.Prelude.{if◌then◌else◌}
use Rattle.definition.specs.declared.Clauses.{Clauses}
use Rattle.definition.specs.declared.Pictured.{Pictured}
use Rattle.definition.specs.declared.Statement.{Statement}
use Rattle.definition.specs.Basic.{is_given, Ok}
use Rattle.definition.specs.Tree.{Forest, leaf, item, above, not_above, forest, higher, fields, Open, opened, still_open}
use Rattle.definition.specs.Usages.{inheriting, around, inherit_along, record_of}
use Rattle.definition.specs.Storage.{elementary}
use Rattle.definition.specs.Owner.{overlaid}
use Rattle.definition.specs.Calls.{record_fields}
use Rattle.definition.specs.Demand.{Among}
use Rattle.definition.proofs.CallsLaws.{through-fields}
use Rattle.definition.proofs.Lists.{by_cases}
use Rattle.definition.proofs.TreeLaws.{forest-none, forest-cons}
use Rattle.definition.proofs.UsageLaws.{along-forest}
use Rattle.theorems.specs.Fields.{all_above, without_root, clauses_of, Overlays, FieldsOf, AlignedBySync}

-- ---------------------------------------------------------------- the root

-- all are above it, or fewer than all stand below it
above-all : (n : ℕ) (ss : List Statement) → all_above n ss ≡ true → higher n ss ≡ length ss
unfolding higher
above-all n [] h = refl
above-all n (s ∷ ss) h = grind (arith, above-all n ss)

above-some : (n : ℕ) (ss : List Statement) → all_above n ss ≡ false → higher n ss < length ss
unfolding higher
above-some n [] h = absurd (cc)
above-some n (s ∷ ss) h = grind (arith, above-some n ss)

-- a forest of a statement is an item
fields-only : (s t : Statement) (a b : Forest) → fields (item s (item t a b) leaf) ≡ item t a b
unfolding fields
fields-only s t a b = refl

fields-more : (s t : Statement) (k a b : Forest) → fields (item s k (item t a b)) ≡ item s k (item t a b)
unfolding fields
fields-more s t leaf a b = refl
fields-more s t (item u k l) a b = refl

fields-alone : (s : Statement) → fields (item s leaf leaf) ≡ item s leaf leaf
unfolding fields
fields-alone s = refl

forest-single : (s : Statement) → forest (s ∷ []) ≡ item s leaf leaf
unfolding forest above not_above
forest-single s = refl

drop_rest : (n : ℕ) (ss : List Statement) → length ss ≤ n → drop n ss ≡ []
drop_rest zero [] h = refl
drop_rest (suc n) [] h = refl
drop_rest zero (s ∷ ss) h = absurd (omega arith)
drop_rest (suc n) (s ∷ ss) h = drop_rest n ss (omega arith)

not_empty : (n : ℕ) (ss : List Statement) → n < length ss → (t : Statement) × (ts : List Statement) × (drop n ss ≡ t ∷ ts)
not_empty n [] h = absurd (omega arith)
not_empty zero (s ∷ ss) h = (s, ss, refl)
not_empty (suc n) (s ∷ ss) h = not_empty n ss (omega arith)

pub fields-forest : (ss : List Statement) → fields (forest ss) ≡ forest (without_root ss)
unfolding fields
fields-forest [] = rw forest-none
fields-forest (s ∷ []) = ap fields (forest-single s) ∙ fields-alone s ∙ sym (forest-single s)
fields-forest (s ∷ t ∷ ss) =
    let rest = t ∷ ss in
    let n = higher s.level rest in
    by_cases (all_above s.level rest)
    (λ y.
    let whole = above-all s.level rest y in
    let kids : forest (take n rest) ≡ forest rest = ap forest (take_all n rest (omega (arith, whole))) in
    let none : forest (drop n rest) ≡ leaf = ap forest (drop_rest n rest (omega (arith, whole))) ∙ forest-none in
    ap fields (forest-cons s rest ∙ (λ i. item s (kids i) (none i)) ∙ ap (λ (f : Forest). item s f leaf) (forest-cons t ss))
    ∙ fields-only s t _ _
    ∙ sym (forest-cons t ss)
    ∙ sym (ap (λ (b : Bool). forest (if b then rest else s ∷ rest)) y))
    (λ y.
    let more = not_empty n rest (above-some s.level rest y) in
    let others : forest (drop n rest) ≡ _ = ap forest more.2 ∙ forest-cons more.0 more.1 in
    ap fields (forest-cons s rest ∙ ap (item s (forest (take n rest))) others)
    ∙ fields-more s more.0 _ _ _
    ∙ sym (forest-cons s rest ∙ ap (item s (forest (take n rest))) others)
    ∙ sym (ap (λ (b : Bool). forest (if b then rest else s ∷ rest)) y))

-- ---------------------------------------------------------------- usages change no clause

levels-along :
    (ss : List Statement) (os : List Open) (k n : ℕ) → all_above n (inherit_along os k ss) ≡ all_above n ss
unfolding inherit_along
levels-along [] os k n = refl
levels-along (s ∷ ss) os k n =
    let outer = still_open s.level os in
    let t = inheriting (around outer) s in
    cc (levels-along ss (opened t.level (suc k) t.usage ∷ outer) (suc k) n)

clauses-along :
    (ss : List Statement) (os : List Open) (k : ℕ) → map clauses_of (inherit_along os k ss) ≡ map clauses_of ss
unfolding inherit_along
clauses-along [] os k = refl
clauses-along (s ∷ ss) os k =
    let outer = still_open s.level os in
    let t = inheriting (around outer) s in
    ap (λ (l : List Clauses). s.clauses ∷ l) (clauses-along ss (opened t.level (suc k) t.usage ∷ outer) (suc k))

root-along :
    (ss : List Statement) →
    map clauses_of (without_root (inherit_along [] 0 ss)) ≡ map clauses_of (without_root ss)
unfolding inherit_along still_open
root-along [] = refl
root-along (s ∷ []) = refl
root-along (s ∷ t ∷ ss) =
    let os = opened s.level 1 (inheriting (around []) s).usage ∷ [] in
    let more = inherit_along os 1 (t ∷ ss) in
    let same = clauses-along (t ∷ ss) os 1 in
    let levels = levels-along (t ∷ ss) os 1 s.level in
    by_cases (all_above s.level (t ∷ ss))
    (λ y. rw (levels ∙ y, y) same)
    (λ y. rw (levels ∙ y, y) (ap (λ (l : List Clauses). s.clauses ∷ l) same))

-- ---------------------------------------------------------------- overlaid

overlaid-both : (n : ℕ) (f : Forest) → overlaid (above n f) || overlaid (not_above n f) ≡ overlaid f
unfolding overlaid above not_above
overlaid-both n leaf = refl
overlaid-both n (item s kids later) = grind (arith, overlaid-both n later)

overlays : Statement → Bool
overlays s = is_given s.clauses.redefines || is_given s.clauses.depending

overlaid-cons : (s : Statement) (ss : List Statement) → overlaid (forest (s ∷ ss)) ≡ overlays s || overlaid (forest ss)
unfolding overlaid forest overlays
overlaid-cons s ss = grind (arith, overlaid-both s.level (forest ss))

overlaid-none : overlaid (forest []) ≡ false
unfolding overlaid forest
overlaid-none = refl

overlays-so : (s : Statement) → overlays s ≡ true → Overlays s.clauses
unfolding overlays
overlays-so s h = grind (arith, inl, inr)

so_overlays : (s : Statement) → Overlays s.clauses → overlays s ≡ true
unfolding overlays
so_overlays s h = grind arith

by-one :
    (ss : List Statement) → overlaid (forest ss) ≡ true →
    (c : Clauses) × Among c (map clauses_of ss) × Overlays c
by-one [] h = absurd (cc overlaid-none)
by-one (s ∷ ss) h =
    by_cases (overlays s)
    (λ y. (s.clauses, inl refl, overlays-so s y))
    (λ y.
    let r = by-one ss (grind (arith, overlaid-cons s ss)) in
    (r.0, inr r.1, r.2))

by-none :
    (ss : List Statement) → overlaid (forest ss) ≡ false →
    (c : Clauses) → Among c (map clauses_of ss) → Overlays c → ⊥
by-none [] h c a o = absurd a
by-none (s ∷ ss) h c a o =
    let both : overlays s || overlaid (forest ss) ≡ false = sym (overlaid-cons s ss) ∙ h in
    ⊎_elim
    (λ (q : c ≡ s.clauses). absurd (grind (arith, so_overlays s (subst Overlays q o))))
    (λ (m : Among c (map clauses_of ss)). by-none ss (grind arith) c m o)
    a

-- ---------------------------------------------------------------- a copybook

fields-are : (ss : List Statement) → record_of ss ≡ forest (without_root (inherit_along [] 0 ss))
fields-are ss = ap fields (sym (along-forest ss)) ∙ fields-forest (inherit_along [] 0 ss)

pub fields_of : (text : List ℕ) (work : ℕ) (f : Forest) → record_fields text work ≡ Ok f → FieldsOf text f
fields_of text work f h =
    through-fields text work f h λ ss kept q.
    let is : f ≡ forest (without_root (inherit_along [] 0 ss)) = sym q ∙ fields-are ss in
    let same = root-along ss in
    record {
      statements = ss;
      kept = kept;
      fields = is;
      by-one = λ o.
          let r = by-one (without_root (inherit_along [] 0 ss)) (sym (ap overlaid is) ∙ o) in
          (r.0, subst (Among r.0) same r.1, r.2);
      by-none = λ o c a.
          by-none (without_root (inherit_along [] 0 ss)) (sym (ap overlaid is) ∙ o) c (subst (Among c) (sym same) a);
    }

-- ---------------------------------------------------------------- SYNC

pub aligned_by_sync :
    (text : List ℕ) (s : Statement) (c : Pictured) → elementary text s ≡ Ok c → AlignedBySync text s c
aligned_by_sync text s c h =
    record { only = λ a. grind arith; each = λ y n b. grind arith; no-group = λ t kids later. refl }
