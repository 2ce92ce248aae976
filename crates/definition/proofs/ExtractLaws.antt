-- Laws of the extract: the numbers that are looked at; the best of them fits, is the heaviest and the earliest; every
-- choice has a number; and no choice that fits outweighs the items that fit alone.
-- Assumes nothing.
use Prim.Native.Nat.{ℕ, zero, suc, ◌+◌, ◌*◌, ◌/◌, ◌%◌, ◌≤◌, ◌<◌, min}
use mathlib.Core.Path.{◌≡◌, refl, sym, ◌∙◌, ap, subst}
use mathlib.Core.List.{List, [], ◌∷◌}
use mathlib.Core.Logic.{◌⊎◌, inl, inr, ⊎_elim}
use native.Mathlib.Nat.{pow-suc}
use native.Mathlib.Omega.{arith}
use lib.ListN.{length}
use Rattle.definition.specs.declared.Extract.{Extract}
use Rattle.definition.specs.declared.Refusal.{Refusal}
use Rattle.definition.specs.Basic.{Answer, Ok, ◌>>=◌, refuse_if}
use Rattle.definition.specs.Demand.{Among}
use Rattle.definition.specs.Extract.{WeightedItem, widths, items, bytes_of, weight_of, chosen, subsets#, up_from}
use Rattle.definition.specs.Extract.{heavier, heaviest, alone, off_by, extract}
use Rattle.definition.specs.Extracted.{Choice, none, with, without, LookedAt, Best, Extracted}
use Rattle.definition.specs.Fold.{Entries, folded_all}
use Rattle.definition.specs.Record.{layout}
use Rattle.definition.specs.Tree.{Forest, fields}
use Rattle.definition.specs.Owner.{overlaid}
use Rattle.definition.specs.Calls.{record_fields, asked, extract_of, extract_in}
use Rattle.definition.proofs.Answers.{give-next, through, given-same}
use Rattle.definition.proofs.Lists.{order}

-- ---------------------------------------------------------------- the numbers looked at

pub length-up_from : (k n : ℕ) → length (up_from k n) ≡ n
unfolding up_from
length-up_from k zero = refl
length-up_from k (suc n) = ap suc (length-up_from (suc k) n)

-- one of them is not before the first and before the end
pub record Within (k n x : ℕ) : Type 0 where
  pub low : k ≤ x
  pub high : x < k + n

pub among-within : (x k n : ℕ) → Among x (up_from k n) → Within k n x
unfolding up_from
among-within x k zero h = absurd h
among-within x k (suc n) h = grind (arith, among-within x (suc k) n)

pub within-among : (x k n : ℕ) → Within k n x → Among x (up_from k n)
unfolding up_from
within-among x k zero h = absurd (omega arith)
within-among x k (suc n) h =
    ⊎_elim (λ (l : k < x). inr (within-among x (suc k) n (grind arith))) (λ (l : x ≤ k). inl (omega arith)) (order k x)

-- ---------------------------------------------------------------- the heaviest of them

module _ (limit : ℕ) (is : List WeightedItem) where
  -- what the subset of a number weighs, and what it takes
  abbrev weight : ℕ → ℕ
  weight n = weight_of (chosen n is)

  abbrev bytes : ℕ → ℕ
  bytes n = bytes_of (chosen n is)

  -- what holds of the best of n subsets from number k on, after the best so far
  record Top (best k n top : ℕ) : Type 0 where
    place : (top ≡ best) ⊎ Within k n top
    fitting : bytes top ≤ limit
    above : weight best ≤ weight top
    heaviest-of : (x : ℕ) → Within k n x → bytes x ≤ limit → weight x ≤ weight top
    earliest-of : (x : ℕ) → Within k n x → bytes x ≤ limit → weight x ≡ weight top → top ≤ x
    keeps : weight top ≡ weight best → top ≡ best

  top_of : (best k n : ℕ) → best ≤ k → bytes best ≤ limit → Top best k n (heaviest limit is best (up_from k n))
  unfolding heaviest up_from
  top_of best k zero before h =
      record {
        place = inl refl;
        fitting = h;
        above = omega arith;
        heaviest-of = λ x w _. absurd (omega arith);
        earliest-of = λ x w _ _. absurd (omega arith);
        keeps = λ _. refl;
      }
  top_of best k (suc n) before h =
      let t = top_of (heavier limit is best k) (suc k) n (grind arith) (grind arith) in
      record {
        place = grind (arith, t.place);
        fitting = t.fitting;
        above = grind (arith, t.above);
        heaviest-of = λ x w q. grind (arith, t.above, t.heaviest-of x);
        earliest-of = λ x w q z. grind (arith, t.above, t.keeps, t.earliest-of x);
        keeps = λ z. grind (arith, t.above, t.keeps);
      }

-- ---------------------------------------------------------------- choices

-- the empty subset takes and weighs nothing
pub chosen-zero : (is : List WeightedItem) → chosen 0 is ≡ []
unfolding chosen
chosen-zero [] = refl
chosen-zero (i ∷ is) = chosen-zero is

-- every number is that of a choice,
pub chosen-choice : (n : ℕ) (is : List WeightedItem) → Choice (chosen n is) is
unfolding chosen
chosen-choice n [] = none
chosen-choice n (i ∷ is) = grind (arith, with, without, chosen-choice (n / 2) is)

-- and every choice has a number
record Numbered (cs is : List WeightedItem) : Type 0 where
  number : ℕ
  below : number < subsets# is
  same : chosen number is ≡ cs

numbered : {cs is : List WeightedItem} → Choice cs is → Numbered cs is
unfolding chosen
numbered none = record { number = 0; below = omega arith; same = refl }
numbered (with {i} {cs} {is} c) =
    let n = numbered c in
    let odd : (2 * n.number + 1) % 2 ≡ 1 = omega arith in
    let half : (2 * n.number + 1) / 2 ≡ n.number = omega arith in
    record {
      number = 2 * n.number + 1;
      below = omega (arith, n.below, pow-suc 2 (length is));
      same = rw (odd, half) (ap (λ (l : List WeightedItem). i ∷ l) n.same);
    }
numbered (without {i} {cs} {is} c) =
    let n = numbered c in
    let even : (2 * n.number) % 2 ≡ 0 = omega arith in
    let half : (2 * n.number) / 2 ≡ n.number = omega arith in
    record {
      number = 2 * n.number;
      below = omega (arith, n.below, pow-suc 2 (length is));
      same = rw (even, half) n.same;
    }

-- a choice that fits weighs no more than the items that fit alone
alone-above :
    (limit : ℕ) {cs is : List WeightedItem} → Choice cs is → bytes_of cs ≤ limit → weight_of cs ≤ weight_of (alone limit is)
unfolding alone
alone-above limit none h = omega arith
alone-above limit (with {i} {cs} {is} c) h = grind (arith, alone-above limit c)
alone-above limit (without {i} {cs} {is} c) h = grind (arith, alone-above limit c h)

-- ---------------------------------------------------------------- the answer

-- there is always a subset
pub subsets-pos : (is : List WeightedItem) → 0 < subsets# is
subsets-pos [] = omega arith
subsets-pos (i ∷ is) = omega (arith, subsets-pos is, pow-suc 2 (length is))

module _ (limit : ℕ) (is : List WeightedItem) where
  -- how far off: nothing, with all looked at;
  pub off-all : (looked found : ℕ) → subsets# is ≤ looked → off_by limit is looked found ≡ 0
  off-all looked found h = grind arith

  -- and else what is missing to the items that fit alone
  pub off_less :
      (looked found : ℕ) → looked < subsets# is → found ≤ weight_of (alone limit is) →
      found + off_by limit is looked found ≡ weight_of (alone limit is)
  off_less looked found h l = grind arith

  -- the best of the first subsets
  module _ (top looked : ℕ) (t : Top limit is 0 0 looked top) where
    abbrev found : ℕ
    found = weight_of (chosen top is)

    -- weighs no more than the items that fit alone
    found-small : found ≤ weight_of (alone limit is)
    found-small = alone-above limit (chosen-choice top is) t.fitting

    -- and no choice outweighs it by more than it is off
    no_more :
        looked ≤ subsets# is → (cs : List WeightedItem) → Choice cs is → bytes_of cs ≤ limit →
        weight_of cs ≤ found + off_by limit is looked found
    no_more small cs c h =
        let n = numbered c in
        let fits-too = subst (λ (l : List WeightedItem). bytes_of l ≤ limit) (sym n.same) h in
        grind (
          arith,
          off_less looked found,
          found-small,
          alone-above limit c h,
          n.below,
          fits-too,
          ap weight_of n.same,
          t.heaviest-of n.number,
        )

  -- the best of the first subsets weighs no more than the items that fit alone
  pub alone-heavier :
      (looked : ℕ) → weight_of (chosen (heaviest limit is 0 (up_from 0 looked)) is) ≤ weight_of (alone limit is)
  alone-heavier looked =
      found-small _ looked (top_of limit is 0 0 looked (omega arith) (rw chosen-zero (omega arith)))

  pub best : (budget : ℕ) → 0 < budget → Best limit budget is (extract limit budget is)
  best budget some =
      let looked = min budget (subsets# is) in
      let top = heaviest limit is 0 (up_from 0 looked) in
      let t = top_of limit is 0 0 looked (omega arith) (rw chosen-zero (omega arith)) in
      let long = length-up_from 0 looked in
      let found = weight_of (chosen top is) in
      let seen-within : (n : ℕ) → LookedAt limit budget is n → Within 0 looked n =
      λ n s. among-within n 0 looked s.looked-at in
      let first : Within 0 looked 0 = record { low = omega arith; high = omega (arith, subsets-pos is) } in
      let place : Within 0 looked top =
      ⊎_elim (λ (e : top ≡ 0). subst (λ (n : ℕ). Within 0 looked n) (sym e) first) (λ w. w) t.place in
      let is-off : off_by limit is (length (up_from 0 looked)) found ≡ off_by limit is looked found =
      ap (λ (n : ℕ). off_by limit is n found) long in
      record {
        seen = record { looked-at = within-among top 0 looked place; fits = t.fitting };
        weighs = refl;
        heaviest = λ n s. t.heaviest-of n (seen-within n s) s.fits;
        earliest = λ n s e. t.earliest-of n (seen-within n s) s.fits e;
        counted = refl;
        bound = λ cs c h. omega (arith, is-off, no_more top looked t (omega arith) cs c h);
        all = λ h. is-off ∙ off-all looked found (omega arith);
        less = λ h. omega (arith, is-off, off_less looked found (omega arith) (found-small top looked t));
      }

-- of items that were laid out
of_items :
    (text : List ℕ) (work : ℕ) (weights : List ℕ) (limit budget : ℕ) (f : Forest) (es : Entries) {a : Extract} →
    record_fields text work ≡ Ok f →
    layout text f ≡ Ok es →
    (refuse_if (overlaid f) Refusal.Overlaid >>= λ _. extract_of (widths es) weights limit budget) ≡ Ok a →
    Extracted text work weights limit budget a
unfolding extract_of
of_items text work weights limit budget f es {a} read laid_out h =
    through _ _ h λ _ e₁ h₁.
    through _ _ h₁ λ _ e₂ h₂.
    through _ _ h₂ λ _ e₃ h₃.
    through _ _ h₃ λ _ e₄ h₄.
    let some : 0 < budget = grind arith in
    record {
      of = f;
      shown = es;
      read = read;
      laid_out = laid_out;
      plain = grind arith;
      few = grind arith;
      paired = grind arith;
      weighed = grind arith;
      some = some;
      best =
          subst (Best limit budget (items (widths es) weights)) (given-same h₄)
          (best limit (items (widths es) weights) budget some);
    }

-- every extract that is not refused is the best one of its items
pub extracted :
    (text : List ℕ) (work : ℕ) (weights : List ℕ) (limit budget : ℕ) {a : Extract} →
    asked (extract_in weights limit budget) text work ≡ Ok a →
    Extracted text work weights limit budget a
unfolding asked extract_in record_fields layout
extracted text work weights limit budget h =
    through _ _ h λ t h₀ h₁.
    through _ _ h₁ λ tree laid_out h₂.
    let read = ap (λ (x : Answer Forest). x >>= λ t. Ok (fields t)) h₀ ∙ give-next t _ in
    let shown = ap (λ (x : Answer Entries). x >>= λ es. Ok (folded_all text es)) laid_out ∙ give-next tree _ in
    of_items text work weights limit budget (fields t) (folded_all text tree) read shown h₂
