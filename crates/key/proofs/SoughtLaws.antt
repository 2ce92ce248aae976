-- The search of a table finds the definition's key: the entries at the top of the folded listing are those of depth 0,
-- and what stands below an entry stands before the later ones.
-- Assumes nothing.
use Rattle.rows.specs.declared.Row.{Row}
use Prim.Native.Nat.{ℕ, ◌+◌, ◌≤◌, ◌<◌}
use mathlib.Core.Path.{◌≡◌, refl, sym, ◌∙◌, ap, ap₂}
use mathlib.Core.Bool.{Bool, true, false, ◌||◌}
use mathlib.Core.List.{List, [], ◌∷◌, ◌++◌, append_assoc}
use Rattle.std.specs.Prelude.{None, Some}
use native.Mathlib.Omega.{arith}
use lib.Dec.{eqb}
use lib.ListN.{length, drop, get_or}
use Rattle.std.proofs.lemmas.List.{at_drop_more, at_drop_all}
use Rattle.std.proofs.Math.Bool.{or_assoc, or-false}
use borrow.Author.Tests.{ne_eqb}
use Rattle.std.specs.Prelude.{if◌then◌else◌}
use Rattle.definition.specs.Basic.{is_given}
use Rattle.definition.specs.Fold.{Entries, end, entry}
use Rattle.definition.specs.Record.{variable}
use Rattle.definition.specs.Key.{is_named, Named, named, named_in, may_be_key, key_of, one_key, key_among}
use Rattle.fold.specs.declared.table.TableEntry.{TableEntry}
use Rattle.fold.specs.Entered.{Shown, flat_in, own_of, shown_of, shown_all}
use Rattle.key.specs.declared.Sought.{Sought}
use Rattle.key.specs.Sought.{column_of, found_key, met, sought_at, sought_in}

-- ---------------------------------------------------------------- the entries of the name, one by one

unfoldable met_all : Sought → List Named → Sought
met_all found [] = found
met_all found (x ∷ xs) = met_all (met found x) xs

spoilt : (ns : List Named) → met_all Sought.Spoilt ns ≡ Sought.Spoilt
unfolding met_all
spoilt [] = refl
spoilt (x ∷ ns) = spoilt ns

-- one that may be a key is found, and a second spoils it
found-one : (text : List ℕ) (ns : List Named) → found_key text (met_all Sought.Nothing ns) ≡ one_key text ns
unfolding met_all
found-one text [] = refl
found-one text (x ∷ []) = by-test (may_be_key x)
  where
    by-test :
        (b : Bool) →
        found_key text (if b then Sought.One (column_of x.own) else Sought.Spoilt)
        ≡ (if b then Some (key_of text x.own) else None)
    by-test true = refl
    by-test false = refl
found-one text (x ∷ y ∷ more) = by-test (may_be_key x)
  where
    by-test :
        (b : Bool) →
        found_key text (met_all (met (if b then Sought.One (column_of x.own) else Sought.Spoilt) y) more) ≡ None
    by-test true = ap (found_key text) (spoilt more)
    by-test false = ap (found_key text) (spoilt more)

-- ---------------------------------------------------------------- the listing

module _ (text name : List ℕ) where
  or_inside : (v a b c : Bool) → (((v || a) || b) || c) ≡ (v || ((a || b) || c))
  or_inside v a b c = ap (λ (x : Bool). x || c) (or_assoc v a b) ∙ or_assoc v (a || b) c

  -- what stands below the top counts for its DEPENDING ON alone
  below_top :
      (es : Entries) (d : ℕ) (v : Bool) (s : Sought) (l : List Shown) →
      sought_in text name v s (flat_in (d + 1) es ++ l) ≡ sought_in text name (v || variable es) s l
  unfolding sought_in flat_in variable
  below_top end d v s l = ap (λ (b : Bool). sought_in text name b s l) (sym (or-false v))
  below_top (entry e ms later) d v s l =
      let deep : eqb (d + 1) 0 ≡ false = ne_eqb (d + 1) 0 (λ z. omega arith) in
      ap
      (λ (b : Bool).
      sought_in text name (v || is_given e.depending)
      (if b then (if is_named text name e then met s (named e v) else s) else s)
      ((flat_in (d + 1 + 1) ms ++ flat_in (d + 1) later) ++ l))
      deep
      ∙ ap
      (sought_in text name (v || is_given e.depending) s)
      (append_assoc (flat_in (d + 1 + 1) ms) (flat_in (d + 1) later) l)
      ∙ below_top ms (d + 1) (v || is_given e.depending) s (flat_in (d + 1) later ++ l)
      ∙ below_top later d ((v || is_given e.depending) || variable ms) s l
      ∙ ap
      (λ (b : Bool). sought_in text name b s l)
      (or_inside v (is_given e.depending) (variable ms) (variable later))

  -- the search over the listing meets the entries of the name at the top
  at_top :
      (es : Entries) (v : Bool) (s : Sought) →
      sought_in text name v s (flat_in 0 es) ≡ met_all s (named_in text name v es)
  unfolding sought_in flat_in named_in met_all
  at_top end v s = refl
  at_top (entry e ms later) v s =
      below_top ms 0 (v || is_given e.depending)
      (if is_named text name e then met s (named e v) else s)
      (flat_in 0 later)
      ∙ at_top later ((v || is_given e.depending) || variable ms)
      (if is_named text name e then met s (named e v) else s)
      ∙ ap
      (λ (b : Bool). met_all (if is_named text name e then met s (named e v) else s) (named_in text name b later))
      (or_assoc v (is_given e.depending) (variable ms))
      ∙ by-test (is_named text name e)
    where
      by-test :
          (b : Bool) →
          met_all (if b then met s (named e v) else s)
          (named_in text name (v || (is_given e.depending || variable ms)) later)
          ≡ met_all s
          (if b then named e v ∷ named_in text name (v || (is_given e.depending || variable ms)) later
          else named_in text name (v || (is_given e.depending || variable ms)) later)
      by-test true = refl
      by-test false = refl

  -- what the search finds is the key
  pub sought-key :
      (es : Entries) → found_key text (sought_in text name false Sought.Nothing (flat_in 0 es)) ≡ key_among text name es
  sought-key es =
      ap (found_key text) (at_top es false Sought.Nothing) ∙ found-one text (named_in text name false es)

-- ---------------------------------------------------------------- the loop

module _ (text name : List ℕ) (w : List Row) (t : List TableEntry) (k : ℕ) (b : Bool) (f : Sought) where
  -- no item is left
  pub seek-none : length t ≤ k → sought_in text name b f (shown_all w (drop k t)) ≡ f
  unfolding sought_in shown_all
  seek-none h = at_drop_all (λ xs. sought_in text name b f (shown_all w xs)) t k h

  -- one more is looked at
  pub seek-next :
      (x : TableEntry) →
      k < length t →
      {s : Sought} {b' : Bool} →
      s ≡ sought_at text name b f (shown_of w (get_or t k x)) →
      b' ≡ (b || is_given (own_of w (get_or t k x)).depending) →
      sought_in text name b f (shown_all w (drop k t)) ≡ sought_in text name b' s (shown_all w (drop (k + 1) t))
  unfolding sought_in shown_all
  seek-next x h p q =
      at_drop_more (λ xs. sought_in text name b f (shown_all w xs)) t k x h
      ∙ ap₂ (λ (y : Bool) (z : Sought). sought_in text name y z (shown_all w (drop (k + 1) t))) (sym q) (sym p)

pub ruleset seeking = (seek-next, seek-none)
