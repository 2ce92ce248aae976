-- A set of copybooks, one after the other: how the later ones agree with the first.
-- Assumes nothing.
use Rattle.std.proofs.Common.{ℕ, ◌≡◌, ◌+◌, ◌≤◌, ◌<◌, refl, sym, ◌∙◌, ap, Bool, true, false, ◌&&◌, List, [], ◌∷◌, length, get_or, take, drop, arith, ◌-◌, length-drop}
use Rattle.std.specs.Prelude.{if◌then◌else◌, Option, None, Some, leb, MatchOption, IsSomeAnd}
use Rattle.std.specs.Option.{ok_or}
use Rattle.std.proofs.Common.{subst}
use lib.ListN.{drop_of_length-le}
use Rattle.std.proofs.lemmas.List.{take_all}
use Rattle.std.proofs.Math.Bool.{and_assoc}
use borrow.Author.Tests.{eqb-true, leb-true}
use Rattle.std.proofs.lemmas.Bool.{and_parts}
use Rattle.definition.specs.declared.KeyColumn.{KeyColumn}
use Rattle.definition.specs.declared.Refusal.{Refusal}
use Rattle.definition.specs.declared.TheConstants.{FEWEST_IN_SET, MOST_IN_SET}
use Rattle.definition.specs.Basic.{sum, Answer, Err, Ok, ◌>>=◌, and_then}
use Rattle.definition.specs.Key.{Key, key_in, agree, all_agree, common, keys_in, copybooks, is_set}
use Rattle.std.proofs.lemmas.List.{drop_more}
use Rattle.key.specs.declared.Candidate.{Candidate}
use Rattle.key.specs.declared.Sought.{Sought}
use Rattle.key.specs.Sought.{candidate, key_column, found_key}
use Rattle.key.specs.Sets.{all_agreed, Lent, place_of, keys_given}

-- ---------------------------------------------------------------- the bytes lent

pub sum_next : (lengths : List ℕ) (i : ℕ) → i < length lengths → sum (drop i lengths) ≡ get_or lengths i 0 + sum (drop (i + 1) lengths)
unfolding sum
sum_next lengths i h = ap sum (drop_more lengths i 0 h)

pub sum_none : (lengths : List ℕ) (i : ℕ) → length lengths ≤ i → sum (drop i lengths) ≡ 0
unfolding sum
sum_none lengths i h = ap sum (drop_of_length-le lengths h)

-- the lengths after the first, as a slice
pub all_later : (lengths : List ℕ) → take (length lengths - 1) (drop 1 lengths) ≡ drop 1 lengths
all_later lengths = take_all (length lengths - 1) (drop 1 lengths) (omega (arith, length-drop 1 lengths))

-- the first copybook is there
pub first_inside : {texts lengths : List ℕ} → Lent texts lengths → get_or lengths 0 0 ≤ length texts
first_inside {texts} {lengths} l = omega (arith, l.all_there, sum_next lengths 0 l.some-there)

-- a set has a first copybook, and its lengths add up
pub lent : {texts lengths : List ℕ} → true ≡ is_set lengths texts → Lent texts lengths
lent {texts} {lengths} e =
    let a = and_parts (leb FEWEST_IN_SET (length lengths)) _ (sym e) in
    let b = and_parts (leb (length lengths) MOST_IN_SET) _ a.1 in
    record {
      some-there = omega (arith, leb-true FEWEST_IN_SET (length lengths) a.0);
      all_there = eqb-true (sum lengths) (length texts) b.1;
    }

-- ---------------------------------------------------------------- the place of what was found

-- the column that was found as the answer, or 57
pub placed :
    (text : List ℕ) (f : Sought) (k : Option KeyColumn) {c : Option Candidate} →
    c ≡ candidate f →
    MatchOption c (k ≡ None) (λ x. IsSomeAnd k (λ y. y ≡ key_column x)) →
    ok_or k Refusal.NoCommonKey ≡ place_of (found_key text f)
unfolding and_then
placed text f k q h = by-found f k (subst (λ x. MatchOption x (k ≡ None) (λ x. IsSomeAnd k (λ y. y ≡ key_column x))) q h)
  where
    by-found :
        (f : Sought) (k : Option KeyColumn) →
        MatchOption (candidate f) (k ≡ None) (λ x. IsSomeAnd k (λ y. y ≡ key_column x)) →
        ok_or k Refusal.NoCommonKey ≡ place_of (found_key text f)
    by-found Sought.Nothing k h = ap (λ k. ok_or k Refusal.NoCommonKey) h
    by-found (Sought.One c) None h = absurd h
    by-found (Sought.One c) (Some k) h = ap Ok h
    by-found Sought.Spoilt k h = ap (λ k. ok_or k Refusal.NoCommonKey) h

-- ---------------------------------------------------------------- the later ones

module _ (n : ℕ) (name : List ℕ) where
  -- those that agree one by one agree all
  all-agreed :
      (a : Option Key) (texts : List (List ℕ)) (b : Bool) →
      all_agreed n name a b texts ≡ (keys_in n name texts >>= λ ks. Ok (b && all_agree a ks))
  unfolding all_agreed keys_in all_agree and_then
  all-agreed a [] true = refl
  all-agreed a [] false = refl
  all-agreed a (text ∷ texts) b = let ih = all-agreed a texts in by_first (key_in n name text) ih
    where
      by-rest :
          (k : Option Key) (y : Answer (List (Option Key))) →
          (y >>= λ ks. Ok ((b && agree a k) && all_agree a ks))
          ≡ ((y >>= λ ks. Ok (k ∷ ks)) >>= λ ks. Ok (b && all_agree a ks))
      by-rest k (Err r) = refl
      by-rest k (Ok ks) = ap Ok (and_assoc b (agree a k) (all_agree a ks))

      by_first :
          (x : Answer (Option Key)) →
          ((c : Bool) → all_agreed n name a c texts ≡ (keys_in n name texts >>= λ ks. Ok (c && all_agree a ks))) →
          (x >>= λ k. all_agreed n name a (b && agree a k) texts)
          ≡ ((x >>= λ k. keys_in n name texts >>= λ ks. Ok (k ∷ ks)) >>= λ ks. Ok (b && all_agree a ks))
      by_first (Err r) ih = refl
      by_first (Ok k) ih = ih (b && agree a k) ∙ by-rest k (keys_in n name texts)

  -- the place of the first key, where the others agree
  first_given :
      (a : Option Key) (texts : List (List ℕ)) →
      ((keys_in n name texts >>= λ ks. Ok (a ∷ ks)) >>= λ ks. place_of (common ks))
      ≡ (all_agreed n name a true texts >>= λ so. if so then place_of a else Err Refusal.NoCommonKey)
  unfolding and_then
  first_given a texts =
      by-others (keys_in n name texts)
      ∙ ap (λ (y : Answer Bool). y >>= λ so. if so then place_of a else Err Refusal.NoCommonKey) (sym (all-agreed a texts true))
    where
      by-test :
          (b : Bool) →
          ◌≡◌ {A = Answer KeyColumn} (place_of (if b then a else None)) (if b then place_of a else Err Refusal.NoCommonKey)
      by-test true = refl
      by-test false = refl

      by-others :
          (y : Answer (List (Option Key))) →
          ((y >>= λ ks. Ok (a ∷ ks)) >>= λ ks. place_of (common ks))
          ≡ ((y >>= λ ks. Ok (true && all_agree a ks)) >>= λ so. if so then place_of a else Err Refusal.NoCommonKey)
      by-others (Err r) = refl
      by-others (Ok ks) = by-test (all_agree a ks)

  -- what a set answers by its first copybook: its refusal, or what the others add
  pub set_first :
      (lengths texts : List ℕ) →
      1 ≤ length lengths →
      keys_given n name lengths texts
      ≡ (key_in n name (take (get_or lengths 0 0) texts) >>= λ a.
      all_agreed n name a true (copybooks (drop 1 lengths) (drop (get_or lengths 0 0) texts)) >>= λ so.
      if so then place_of a else Err Refusal.NoCommonKey)
  unfolding keys_in copybooks and_then
  set_first lengths texts h =
      ap (λ (l : List ℕ). keys_given n name l texts) (drop_more lengths 0 0 h)
      ∙ by_first (key_in n name (take (get_or lengths 0 0) texts))
    where
      others : List (List ℕ)
      others = copybooks (drop 1 lengths) (drop (get_or lengths 0 0) texts)

      by_first :
          (x : Answer (Option Key)) →
          ((x >>= λ k. keys_in n name others >>= λ ks. Ok (k ∷ ks)) >>= λ ks. place_of (common ks))
          ≡ (x >>= λ a. all_agreed n name a true others >>= λ so. if so then place_of a else Err Refusal.NoCommonKey)
      by_first (Err r) = refl
      by_first (Ok a) = first_given a others

  -- the copybook that stands before the rest
  module _
      (a : Option Key) (agreed : Bool) {texts rest : List (List ℕ)} {text : List ℕ} (there : texts ≡ text ∷ rest)
    where
      agree_next :
          all_agreed n name a agreed texts ≡ (key_in n name text >>= λ k. all_agreed n name a (agreed && agree a k) rest)
      unfolding all_agreed
      agree_next = ap (all_agreed n name a agreed) there

      -- it is refused
      pub agree_refused : {r : Refusal} → Err r ≡ key_in n name text → Err r ≡ all_agreed n name a agreed texts
      unfolding and_then
      agree_refused q = sym (agree_next ∙ rw (← q))

      -- or read
      pub agree_on :
          {k : Option Key} →
          Ok k ≡ key_in n name text →
          {so : Bool} →
          so ≡ (agreed && agree a k) →
          all_agreed n name a agreed texts ≡ all_agreed n name a so rest
      unfolding and_then
      agree_on q s = agree_next ∙ rw (← q, s)

  -- after the last one
  pub agree_last : (a : Option Key) (agreed : Bool) {texts : List (List ℕ)} → texts ≡ [] → all_agreed n name a agreed texts ≡ Ok agreed
  unfolding all_agreed
  agree_last a agreed e = ap (all_agreed n name a agreed) e

  -- ---------------------------------------------------------------- the first one, and the others

  module _
      (lengths texts : List ℕ) (there : 1 ≤ length lengths) {text : List ℕ} (front : text ≡ take (get_or lengths 0 0) texts)
    where
      -- the first is refused
      pub first_refused : {r : Refusal} → Err r ≡ key_in n name text → Err r ≡ keys_given n name lengths texts
      unfolding and_then
      first_refused q = sym (set_first lengths texts there ∙ rw (← front, ← q))

      module _
          {a : Option Key} (read : Ok a ≡ key_in n name text) {later others : List ℕ}
          (tail : later ≡ drop 1 lengths) (back : others ≡ drop (get_or lengths 0 0) texts)
        where
          set_later :
              keys_given n name lengths texts
              ≡ (all_agreed n name a true (copybooks later others) >>= λ so. if so then place_of a else Err Refusal.NoCommonKey)
          unfolding and_then
          set_later = set_first lengths texts there ∙ rw (← front, ← read, tail, back)

          -- or another
          pub others_refused : {r : Refusal} → Err r ≡ all_agreed n name a true (copybooks later others) → Err r ≡ keys_given n name lengths texts
          unfolding and_then
          others_refused q = sym (set_later ∙ rw (← q))

          -- or all agree
          pub others_agree : {so : Bool} → Ok so ≡ all_agreed n name a true (copybooks later others) → so ≡ true → place_of a ≡ keys_given n name lengths texts
          unfolding and_then
          others_agree q e = sym (set_later ∙ rw (← q, e))

          -- or not
          pub others_differ :
              {so : Bool} →
              Ok so ≡ all_agreed n name a true (copybooks later others) →
              so ≡ false →
              Err Refusal.NoCommonKey ≡ keys_given n name lengths texts
          unfolding and_then
          others_differ q e = sym (set_later ∙ rw (← q, e))

pub ruleset agree_steps = (agree_refused, agree_on, agree_last)

pub ruleset set_steps = (first_inside, all_later, first_refused, others_refused, others_agree, others_differ)
