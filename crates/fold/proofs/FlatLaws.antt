-- Laws of the listing's entries one after the other: two lists, how many there are; what is asked of the folded listing
-- is asked of them.
-- Assumes nothing.
use Rattle.definition.specs.declared.Refusal.{Refusal}
use Prim.Native.Nat.{ℕ, ◌+◌, max, ◌≤◌}
use mathlib.Core.Path.{◌≡◌, refl, sym, ap, ◌∙◌}
use mathlib.Core.Bool.{false, ◌||◌}
use mathlib.Core.List.{List, [], ◌∷◌, ◌++◌, append_assoc}
use native.Mathlib.Omega.{arith}
use lib.Dec.{eqb, ltb}
use lib.ListN.{length, length-append}
use borrow.Author.Tests.{ne_eqb}
use Rattle.std.proofs.Math.Bool.{or_assoc}
use Rattle.definition.specs.declared.TheConstants.{LARGEST}
use Rattle.definition.specs.Basic.{is_given, Answer, Err, Ok, ◌>>=◌, and_then, refuse_if}
use Rattle.definition.specs.Fold.{Entries, end, entry, append, entry_end}
use Rattle.definition.specs.Record.{record_length, variable, ends_fit}
use Rattle.definition.specs.Listing.{members#, entries_bytes}
use Rattle.definition.specs.Search.{entries#}
use Rattle.fold.specs.Entered.{Shown, flat_in, flat_bytes, flat_varies, top_end, flat_length, flat_fits}

-- ---------------------------------------------------------------- two lists

pub flat_append : (a b : Entries) (d : ℕ) → flat_in d (append a b) ≡ flat_in d a ++ flat_in d b
unfolding append flat_in
flat_append end b d = refl
flat_append (entry e ms later) b d = simp (flat_append later b d, append_assoc)

pub flat-length : (es : Entries) (d : ℕ) → length (flat_in d es) ≡ entries# es
unfolding flat_in
flat-length end d = refl
flat-length (entry e ms later) d = omega (arith, length-append (flat_in (d + 1) ms) (flat_in d later), flat-length ms (d + 1), flat-length later d)

pub size-append : (a b : Entries) → entries# (append a b) ≡ entries# a + entries# b
unfolding append
size-append end b = omega arith
size-append (entry e ms later) b = omega (arith, size-append later b)

pub members-few : (es : Entries) → members# es ≤ entries# es
members-few end = omega arith
members-few (entry e ms later) = omega (arith, members-few later)

-- ---------------------------------------------------------------- what the listing says

bytes-both : (a b : List Shown) → flat_bytes (a ++ b) ≡ flat_bytes a ++ flat_bytes b
unfolding flat_bytes
bytes-both [] b = refl
bytes-both (x ∷ a) b = simp (bytes-both a b, append_assoc)

-- the bytes of the entries
pub flat-bytes : (es : Entries) (d : ℕ) → flat_bytes (flat_in d es) ≡ entries_bytes es
unfolding flat_in flat_bytes entries_bytes
flat-bytes end d = refl
flat-bytes (entry e ms later) d = simp (bytes-both, flat-bytes ms (d + 1), flat-bytes later d)

varies-both : (a b : List Shown) → flat_varies (a ++ b) ≡ (flat_varies a || flat_varies b)
unfolding flat_varies
varies-both [] b = refl
varies-both (x ∷ a) b = rw (varies-both a b) (sym (or_assoc (is_given x.own.depending) (flat_varies a) (flat_varies b)))

-- whether the record varies
pub flat-varies : (es : Entries) (d : ℕ) → flat_varies (flat_in d es) ≡ variable es
unfolding flat_in flat_varies variable
flat-varies end d = refl
flat-varies (entry e ms later) d =
    simp (varies-both, flat-varies ms (d + 1), flat-varies later d) (sym (or_assoc (is_given e.depending) (variable ms) (variable later)))

length_both : (a b : List Shown) → flat_length (a ++ b) ≡ max (flat_length a) (flat_length b)
unfolding flat_length
length_both [] b = omega arith
length_both (x ∷ a) b = omega (arith, length_both a b)

-- below the top nothing is counted
length_none : (es : Entries) (d : ℕ) → flat_length (flat_in (d + 1) es) ≡ 0
unfolding flat_in flat_length
length_none end d = refl
length_none (entry e ms later) d =
    let deep : eqb (d + 1) 0 ≡ false = ne_eqb (d + 1) 0 (λ z. omega arith) in
    rw deep (omega (arith, length_both (flat_in (d + 1 + 1) ms) (flat_in (d + 1) later), length_none ms (d + 1), length_none later d))

-- the record's length
pub flat-long : (es : Entries) → flat_length (flat_in 0 es) ≡ record_length es
unfolding flat_in flat_length record_length
flat-long end = refl
flat-long (entry e ms later) = omega (arith, length_both (flat_in 1 ms) (flat_in 0 later), length_none ms 0, flat-long later)

fits_both : (a b : List Shown) → flat_fits (a ++ b) ≡ (flat_fits a >>= λ _. flat_fits b)
unfolding flat_fits and_then
fits_both [] b = refl
fits_both (x ∷ a) b = go (refuse_if (ltb LARGEST (top_end x)) (Refusal.TooLarge x.own.at)) (fits_both a b)
  where
    go :
        (here : Answer (Unit {0})) →
        flat_fits (a ++ b) ≡ (flat_fits a >>= λ _. flat_fits b) →
        (here >>= λ _. flat_fits (a ++ b)) ≡ ((here >>= λ _. flat_fits a) >>= λ _. flat_fits b)
    go (Err r) ih = refl
    go (Ok u) ih = ih

fits-none : (es : Entries) (d : ℕ) → flat_fits (flat_in (d + 1) es) ≡ Ok tt
unfolding flat_in flat_fits and_then
fits-none end d = refl
fits-none (entry e ms later) d =
    let deep : eqb (d + 1) 0 ≡ false = ne_eqb (d + 1) 0 (λ z. omega arith) in
    rw (deep, fits_both (flat_in (d + 1 + 1) ms) (flat_in (d + 1) later), fits-none ms (d + 1)) (fits-none later d)

-- 29 for an end at the top
pub flat-fits : (es : Entries) → flat_fits (flat_in 0 es) ≡ ends_fit es
unfolding flat_in flat_fits ends_fit and_then
flat-fits end = refl
flat-fits (entry e ms later) =
    let here = refuse_if (ltb LARGEST (entry_end e)) (Refusal.TooLarge e.at) in
    ap (λ (z : Answer (Unit {0})). here >>= λ _. z)
    (fits_both (flat_in 1 ms) (flat_in 0 later) ∙ ap (λ (z : Answer (Unit {0})). z >>= λ _. flat_fits (flat_in 0 later)) (fits-none ms 0) ∙ flat-fits later)
