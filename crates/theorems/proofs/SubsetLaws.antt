-- The definition's extract, by numbers: its items are the top-level entries with their weights, its subsets those of the
-- bits of a number.
-- Assumes nothing.
use Prim.Native.Nat.{ℕ, suc, ◌/◌, ◌≤◌, ◌<◌, min}
use mathlib.Core.Path.{◌≡◌, refl, sym, ◌∙◌, ap}
use mathlib.Core.Bool.{false}
use mathlib.Core.List.{List, [], ◌∷◌}
use native.Mathlib.Omega.{arith}
use native.Mathlib.Nat.{pow-suc}
use Rattle.std.proofs.Math.Nat.{div-div-eq-div-mul}
use Rattle.std.specs.Prelude.{◌^◌}
use lib.ListN.{length}
use Rattle.definition.specs.declared.Extract.{Extract}
use Rattle.definition.specs.Basic.{Ok}
use Rattle.definition.specs.Fold.{Entries, end, entry}
use Rattle.definition.specs.Extract.{WeightedItem, widths, items, misweighed, bytes_of, weight_of, chosen, subsets#, alone}
use Rattle.definition.specs.Extracted.{LookedAt}
use Rattle.definition.specs.Calls.{asked, extract_in}
use Rattle.definition.proofs.ExtractLaws.{length-up_from, Within, among-within, within-among, subsets-pos, chosen-choice, extracted}
use Rattle.theorems.specs.Subsets.{Offered, Offers, taken, bytes, weight, weight-alone, Heaviest}

-- ---------------------------------------------------------------- items

offered : List WeightedItem → List Offered
offered [] = []
offered (i ∷ is) = record { bytes = i.width; weight = i.weight } ∷ offered is

offered-length : (is : List WeightedItem) → length (offered is) ≡ length is
unfolding offered
offered-length [] = refl
offered-length (i ∷ is) = ap suc (offered-length is)

items-length : (bs ws : List ℕ) → length ws ≡ length bs → length (items bs ws) ≡ length bs
items-length [] ws h = refl
items-length (b ∷ bs) [] h = absurd (omega arith)
items-length (b ∷ bs) (w ∷ ws) h = ap suc (items-length bs ws (omega arith))

offers :
    (es : Entries) (ws : List ℕ) →
    length ws ≡ length (widths es) →
    misweighed ws ≡ false →
    Offers es ws (offered (items (widths es) ws))
unfolding offered misweighed
offers end [] n h = tt
offers end (w ∷ ws) n h = absurd (omega arith)
offers (entry e members later) [] n h = absurd (omega arith)
offers (entry e members later) (w ∷ ws) n h =
    (refl, refl, grind arith, grind arith, offers later ws (omega arith) (grind arith))

-- ---------------------------------------------------------------- subsets

next_bit : (n k : ℕ) → n / 2 ^ k / 2 ≡ n / 2 ^ suc k
next_bit n k = div-div-eq-div-mul n (2 ^ k) 2 ∙ ap (λ (m : ℕ). n / m) (sym (pow-suc 2 k))

bytes-taken : (is : List WeightedItem) (n k : ℕ) → taken (λ i. i.bytes) n k (offered is) ≡ bytes_of (chosen (n / 2 ^ k) is)
unfolding offered chosen
bytes-taken [] n k = refl
bytes-taken (i ∷ is) n k =
    let ih : taken (λ i. i.bytes) n (suc k) (offered is) ≡ bytes_of (chosen (n / 2 ^ k / 2) is) =
    rw next_bit (bytes-taken is n (suc k)) in
    grind (arith, ih)

weight-taken : (is : List WeightedItem) (n k : ℕ) → taken (λ i. i.weight) n k (offered is) ≡ weight_of (chosen (n / 2 ^ k) is)
unfolding offered chosen
weight-taken [] n k = refl
weight-taken (i ∷ is) n k =
    let ih : taken (λ i. i.weight) n (suc k) (offered is) ≡ weight_of (chosen (n / 2 ^ k / 2) is) =
    rw next_bit (weight-taken is n (suc k)) in
    grind (arith, ih)

by_one : (n : ℕ) → n / 2 ^ 0 ≡ n
by_one n = omega arith

bytes-are : (is : List WeightedItem) (n : ℕ) → bytes n (offered is) ≡ bytes_of (chosen n is)
bytes-are is n = bytes-taken is n 0 ∙ ap (λ (m : ℕ). bytes_of (chosen m is)) (by_one n)

weight-is : (is : List WeightedItem) (n : ℕ) → weight n (offered is) ≡ weight_of (chosen n is)
weight-is is n = weight-taken is n 0 ∙ ap (λ (m : ℕ). weight_of (chosen m is)) (by_one n)

alone-is : (limit : ℕ) (is : List WeightedItem) → weight-alone limit (offered is) ≡ weight_of (alone limit is)
unfolding offered alone
alone-is limit [] = refl
alone-is limit (i ∷ is) = grind (arith, alone-is limit is)

-- ---------------------------------------------------------------- the answer

pub heaviest :
    (text : List ℕ) (work : ℕ) (weights : List ℕ) (limit budget : ℕ) (a : Extract) →
    asked (extract_in weights limit budget) text work ≡ Ok a →
    Heaviest text work weights limit budget a
heaviest text work weights limit budget a h =
    let x = extracted text work weights limit budget h in
    let is = items (widths x.shown) weights in
    let looked = min budget (subsets# is) in
    let counted : a.examined ≡ looked = x.best.counted ∙ length-up_from 0 looked in
    let seen : Within 0 looked a.subset = among-within a.subset 0 looked x.best.seen.looked-at in
    let among : (n : ℕ) → n < a.examined → bytes n (offered is) ≤ limit → LookedAt limit budget is n =
    λ n l f.
    record {
      looked-at = within-among n 0 looked (record { low = omega arith; high = omega (arith, counted) });
      fits = omega (arith, f, bytes-are is n);
    } in
    let many = offered-length is in
    let subsets : 2 ^ length (offered is) ≡ subsets# is = ap (λ (m : ℕ). 2 ^ m) many in
    record {
      of = x.of;
      shown = x.shown;
      read = x.read;
      laid_out = x.laid_out;
      plain = x.plain;
      items = offered is;
      offered = offers x.shown weights x.paired x.weighed;
      few = omega (arith, many, items-length (widths x.shown) weights x.paired, x.few);
      looked = counted ∙ ap (min budget) (sym subsets);
      some = omega (arith, counted, x.some, subsets-pos is);
      seen = omega (arith, counted, seen.high);
      fits = omega (arith, x.best.seen.fits, bytes-are is a.subset);
      weighs = x.best.weighs ∙ sym (weight-is is a.subset);
      heaviest = λ n l f. omega (arith, weight-is is n, x.best.heaviest n (among n l f));
      earliest = λ n l f e. x.best.earliest n (among n l f) (sym (weight-is is n) ∙ e);
      bound = λ n l f.
          omega (arith, weight-is is n, x.best.bound (chosen n is) (chosen-choice n is) (omega (arith, f, bytes-are is n)));
      all = λ l. x.best.all (omega (arith, subsets, l));
      less = λ l. x.best.less (omega (arith, subsets, l)) ∙ sym (alone-is limit is);
    }
