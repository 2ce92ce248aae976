-- The details are the rows of the entries where they stand, and the owner finds each at its first byte.
-- Assumes nothing.
use Prim.Native.Nat.{ℕ, zero, suc, ◌+◌, ◌*◌}
use mathlib.Core.Path.{◌≡◌, refl, sym, ◌∙◌, ap, subst}
use mathlib.Core.Bool.{Bool, true, false}
use mathlib.Core.List.{List, [], ◌∷◌, ◌++◌, append_assoc}
use mathlib.Core.Logic.{◌⊎◌, inl, inr, ⊎_elim}
use native.Mathlib.Omega.{arith}
use native.Mathlib.Nat.{zero-mul}
use lib.ListN.{length, length-append}
use Rattle.std.specs.Prelude.{Option, None, Some, if◌then◌else◌}
use Rattle.definition.specs.declared.Digits.{Digits}
use Rattle.definition.specs.declared.SignWords.{SignWords}
use Rattle.definition.specs.declared.Statement.{Statement}
use Rattle.definition.specs.declared.Entry.{Entry}
use Rattle.definition.specs.declared.Owner.{Owner}
use Rattle.definition.specs.Basic.{Answer}
use Rattle.definition.specs.Tree.{Forest}
use Rattle.definition.specs.Fold.{Entries, end, entry}
use Rattle.definition.specs.Owner.{occurrence}
use Rattle.definition.specs.Search.{entries#}
use Rattle.definition.specs.Listing.{flag}
use Rattle.definition.specs.Demand.{Spot, spot, Demand}
use Rattle.definition.specs.Details.{detail, details_in, digits_bytes, sign_words_byte, detail_bytes, details_bytes, listing_details}
use Rattle.definition.proofs.DetailLaws.{bytes-both}
use Rattle.theorems.specs.Occurrences.{Within, Occurs}
use Rattle.theorems.specs.Standing.{Standing, standing, below#, offsets, first_byte, of_digits, of_sign, row, head, all_rows}
use Rattle.theorems.specs.Standing.{nth, AtLeastOnce, FirstOwned}
use Rattle.theorems.proofs.Occurrences.{occurrence-owned}

-- ---------------------------------------------------------------- details

below-is : (es : Entries) → entries# es ≡ below# es
below-is end = refl
below-is (entry e members later) = omega (arith, below-is members, below-is later)

rows-append : (xs ys : List Standing) → all_rows (xs ++ ys) ≡ all_rows xs ++ all_rows ys
rows-append [] ys = refl
rows-append (x ∷ xs) ys = ap (λ (l : List ℕ). row x ++ l) (rows-append xs ys) ∙ sym (append_assoc (row x) (all_rows xs) (all_rows ys))

flag-is : (b : Bool) → flag b ≡ (if b then 1 else 0)
flag-is true = refl
flag-is false = refl

digits-are : (d : Option Digits) → digits_bytes d ≡ of_digits d
digits-are None = refl
digits-are (Some d) = cc (flag-is d.signed)

sign-is : (w : Option SignWords) → sign_words_byte w ≡ of_sign w
sign-is w = grind arith

row-is :
    (e : Entry) (members : Entries) (around : List Entry) (depth start : ℕ) →
    length around ≡ depth →
    offsets around ≡ start →
    detail_bytes (detail e depth (entries# members) (start + e.offset))
    ≡ row (record { own = e; below = members; around = around })
unfolding detail_bytes
row-is e members around depth start d s =
    let first : start + e.offset ≡ e.offset + offsets around = omega (arith, s) in
    let mark = flag-is e.folded in
    rw (first, below-is members, mark, digits-are e.digits, sign-is e.sign, ← d)

details-rows :
    (es : Entries) (around : List Entry) (depth start : ℕ) →
    length around ≡ depth →
    offsets around ≡ start →
    details_bytes (details_in depth start es) ≡ all_rows (standing around es)
unfolding details_in details_bytes
details-rows end around depth start d s = refl
details-rows (entry e members later) around depth start d s =
    let first = start + e.offset in
    cc (
      row-is e members around depth start d s,
      bytes-both (details_in (depth + 1) first members) (details_in depth start later),
      rows-append (standing (e ∷ around) members) (standing around later),
      details-rows members (e ∷ around) (depth + 1) first (omega (arith, d)) (omega (arith, s)),
      details-rows later around depth start d s,
    )

pub details_stand :
    (root : Option Statement) (es : Entries) → listing_details root es ≡ head root es ++ all_rows (standing [] es)
unfolding listing_details
details_stand None es = cc (below-is es, details-rows es [] 0 0 refl refl)
details_stand (Some s) es = cc (below-is es, details-rows es [] 0 0 refl refl)

-- ---------------------------------------------------------------- owners

standing-length : (es : Entries) (around : List Entry) → length (standing around es) ≡ entries# es
standing-length end around = refl
standing-length (entry e members later) around =
    omega (
      arith,
      length-append (standing (e ∷ around) members) (standing around later),
      standing-length members (e ∷ around),
      standing-length later around,
    )

-- one of two lists has it
nth-append :
    (xs ys : List Standing) (n : ℕ) (x : Standing) →
    nth n (xs ++ ys) ≡ Some x →
    (nth n xs ≡ Some x) ⊎ ((m : ℕ) × (n ≡ length xs + m) × (nth m ys ≡ Some x))
nth-append [] ys n x h = inr (n, omega arith, h)
nth-append (y ∷ xs) ys zero x h = inl h
nth-append (y ∷ xs) ys (suc n) x h =
    ⊎_elim
    (λ (a : nth n xs ≡ Some x). inl a)
    (λ (b : (m : ℕ) × (n ≡ length xs + m) × (nth m ys ≡ Some x)). inr (b.0, omega (arith, b.1), b.2))
    (nth-append xs ys n x h)

-- the first occurrence of what stands there
record Occurring (k n : ℕ) (around : List Entry) (es : Entries) (x : Standing) : Type 0 where
  stand : AtLeastOnce around
  occurs : Occurs k (offsets around) es (spot (occurrence (k + n)) (first_byte x) x.own.width)

group-in :
    (members : Entries) (around : List Entry) (n : ℕ) (x : Standing) (k width start : ℕ) (y : Spot) (inner : Type 0) →
    nth n (standing around members) ≡ Some x →
    inner →
    Within k width members start y inner
group-in end around n x k width start y inner h i = absurd (cc)
group-in (entry e ms later) around n x k width start y inner h i = i

piece-in :
    (members : Entries) (k width start : ℕ) (y : Spot) (inner : Type 0) →
    members ≡ end →
    y ≡ spot (occurrence k) start width →
    Within k width members start y inner
piece-in end k width start y inner e h = h
piece-in (entry e ms later) k width start y inner q h = absurd (cc)

first-occurs :
    (es : Entries) (k n : ℕ) (around : List Entry) (x : Standing) →
    nth n (standing around es) ≡ Some x →
    x.below ≡ end →
    AtLeastOnce (x.own ∷ x.around) →
    Occurring k n around es x
unfolding Occurs
first-occurs end k n around x h b s = absurd (cc)
first-occurs (entry e members later) k zero around x h b s =
    let it : Standing = record { own = e; below = members; around = around } in
    let is : it ≡ x = cc in
    let stands = subst (λ (y : Standing). AtLeastOnce (y.own ∷ y.around)) (sym is) s in
    let same : k + 0 ≡ k = omega arith in
    let start : e.offset + offsets around ≡ offsets around + e.offset + 0 * e.width = omega (arith, zero-mul e.width) in
    subst (Occurring k 0 around (entry e members later)) is
    (record {
      stand = stands.1;
      occurs = inl (
        0,
        stands.0,
        piece-in members k e.width (offsets around + e.offset + 0 * e.width) _ _
            (ap (λ (y : Standing). y.below) is ∙ b) (λ i. spot (occurrence (same i)) (start i) e.width),
      );
    })
first-occurs (entry e members later) k (suc n) around x h b s =
    let y = spot (occurrence (k + suc n)) (first_byte x) x.own.width in
    ⊎_elim
    (λ (a : nth n (standing (e ∷ around) members) ≡ Some x).
    let r = first-occurs members (suc k) n (e ∷ around) x a b s in
    let same : suc k + n ≡ k + suc n = omega arith in
    let start : e.offset + offsets around ≡ offsets around + e.offset + 0 * e.width = omega (arith, zero-mul e.width) in
    let inner : Occurs (suc k) (offsets around + e.offset + 0 * e.width) members y =
    subst (λ (m : ℕ). Occurs (suc k) m members y) start
    (subst (λ (m : ℕ). Occurs (suc k) (e.offset + offsets around) members (spot (occurrence m) (first_byte x) x.own.width)) same r.occurs) in
    record {
      stand = r.stand.1;
      occurs = inl (0, r.stand.0, group-in members (e ∷ around) n x k e.width _ y _ a inner);
    })
    (λ (c : (m : ℕ) × (n ≡ length (standing (e ∷ around) members) + m) × (nth m (standing around later) ≡ Some x)).
    let r = first-occurs later (suc k + entries# members) c.0 around x c.2 b s in
    let same : suc k + entries# members + c.0 ≡ k + suc n = omega (arith, standing-length members (e ∷ around), c.1) in
    record {
      stand = r.stand;
      occurs = inr (
          subst (λ (m : ℕ). Occurs (suc k + entries# members) (offsets around) later (spot (occurrence m) (first_byte x) x.own.width)) same r.occurs);
    })
    (nth-append (standing (e ∷ around) members) (standing around later) n x h)

-- the owner finds each elementary entry at its first byte
pub first_owned :
    {text : List ℕ} {owner : ℕ → Answer Owner} {f : Forest} {es : Entries} → Demand text owner f es → FirstOwned owner es
first_owned {text} {owner} {f} {es} d n x h b s q l =
    let same : 0 + n ≡ n = omega arith in
    let occurs =
    subst (λ (m : ℕ). Occurs 0 0 es (spot (occurrence m) (first_byte x) x.own.width)) same
    (first-occurs es 0 n [] x h b s).occurs in
    occurrence-owned d n (first_byte x) x.own.width q occurs l
