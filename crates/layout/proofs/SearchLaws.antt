-- The search for a name among the siblings from one back, row by row: it finds the row whose place the definition
-- finds, and looks at as many siblings as that compares names; and the search for a base.
-- Assumes nothing.
use Prim.Native.Nat.{ℕ, zero, suc, ◌≤◌, ◌<◌}
use mathlib.Core.Path.{◌≡◌, refl, sym, ap, ap₂, ◌∙◌}
use mathlib.Core.Bool.{Bool, true, false}
use mathlib.Core.List.{List, ◌∷◌}
use mathlib.Core.Logic.{⊎_elim}
use native.Mathlib.Omega.{arith}
use lib.Dec.{eqb}
use borrow.Author.Tests.{eq-eqb, ne_eqb}
use Rattle.definition.specs.declared.Span.{Span}
use Rattle.definition.specs.declared.Statement.{Statement}
use Rattle.std.specs.Prelude.{if◌then◌else◌, Option}
use Rattle.definition.specs.Basic.{is_given}
use Rattle.definition.specs.Fold.{Place, Search, search_back, find, same_name}
use Rattle.definition.proofs.LayoutLaws.{search-none, search-hit, search-miss, find_none, find-hit, find-miss}
use Rattle.definition.proofs.Lists.{order}
use Rattle.rows.specs.declared.Row.{Row}
use Rattle.rows.specs.Rows.{row_code, row_in, before_in}
use Rattle.rows.proofs.RowLaws.{code-back}
use Rattle.layout.specs.declared.redefines.SearchEnd.{SearchEnd}
use Rattle.layout.specs.Targets.{place_at, left_out, seen_from, seen_at, is_target, row_from, looked_from, offset_of}
use Rattle.layout.specs.Targets.{Ended, search_of, target_from, Named, base_from, plain_after}

pub if-most : (b : Bool) {x y n : ℕ} → x ≤ n → y ≤ n → (if b then x else y) ≤ n
if-most true p q = p
if-most false p q = q

-- what goes down the rows until the last sibling
module _ (f : ℕ → ℕ → ℕ) (skip : (k last : ℕ) → (last ≡ suc k → ⊥) → f (suc k) last ≡ f k last) where
  -- does not count the rows after it
  low : (n last : ℕ) → last ≤ n → f n last ≡ f last last
  low zero last h = ap (λ (m : ℕ). f m last) (let e : 0 ≡ last = omega arith in e)
  low (suc k) last h =
      let ih = low k last in
      ⊎_elim
      (λ (l : last < suc k). skip k last (λ e. omega arith) ∙ ih (omega arith))
      (λ (l : suc k ≤ last). ap (λ (m : ℕ). f m last) (let e : suc k ≡ last = omega arith in e))
      (order last (suc k))

module _ (t : List ℕ) (w : List Row) (target : Span) (bases : Bool) where
  row-skip : (k last : ℕ) → (last ≡ suc k → ⊥) → row_from t target bases w (suc k) last ≡ row_from t target bases w k last
  unfolding row_from
  row-skip k last h = rw (ne_eqb last (suc k) h, row_from)

  -- rows after the last sibling do not count
  pub row_low : (n last : ℕ) → last ≤ n → row_from t target bases w n last ≡ row_from t target bases w last last
  row_low = low (row_from t target bases w) row-skip

  -- the latest sibling, or those before it
  pub row_here : (k : ℕ) → row_from t target bases w (suc k) (suc k) ≡ (if is_target t target bases w k then suc k else row_from t target bases w k (before_in w k))
  unfolding row_from
  row_here k = rw (eq-eqb (suc k) (suc k) refl, row_from)

  pub row-most : (n last : ℕ) → row_from t target bases w n last ≤ n
  unfolding row_from
  row-most zero last = omega arith
  row-most (suc k) last =
      let back = row-most k (before_in w k) in
      let on = row-most k last in
      if-most (eqb last (suc k)) (if-most (is_target t target bases w k) (omega arith) (omega (arith, back))) (omega (arith, on))

  -- the same of how many siblings are looked at
  looked-skip :
      (k last : ℕ) → (last ≡ suc k → ⊥) → looked_from t target bases w (suc k) last ≡ looked_from t target bases w k last
  unfolding looked_from
  looked-skip k last h = rw (ne_eqb last (suc k) h, looked_from)

  pub looked-low : (n last : ℕ) → last ≤ n → looked_from t target bases w n last ≡ looked_from t target bases w last last
  looked-low = low (looked_from t target bases w) looked-skip

  pub looked-here :
      (k : ℕ) →
      looked_from t target bases w (suc k) (suc k)
      ≡ (if is_target t target bases w k then 1 else suc (looked_from t target bases w k (before_in w k)))
  unfolding looked_from
  looked-here k = rw (eq-eqb (suc k) (suc k) refl, looked_from)

  -- the row is what the definition finds
  pub row-found : (n last : ℕ) → find t target (seen_from bases w n last) ≡ offset_of w (row_from t target bases w n last)
  unfolding row_from seen_from
  row-found zero last = find_none t target
  row-found (suc k) last = go (eqb last (suc k)) (left_out bases w k) (row-found k (before_in w k)) (row-found k last)
    where
      named :
          (c : Bool) →
          same_name t target (row_in w k).statement.name ≡ c →
          find t target (seen_from bases w k (before_in w k)) ≡ offset_of w (row_from t target bases w k (before_in w k)) →
          find t target (place_at w k ∷ seen_from bases w k (before_in w k))
          ≡ offset_of w (if c then suc k else row_from t target bases w k (before_in w k))
      named true q p = find-hit t target (place_at w k) (seen_from bases w k (before_in w k)) q
      named false q p = find-miss t target (place_at w k) (seen_from bases w k (before_in w k)) q ∙ p

      go :
          (a b : Bool) →
          find t target (seen_from bases w k (before_in w k)) ≡ offset_of w (row_from t target bases w k (before_in w k)) →
          find t target (seen_from bases w k last) ≡ offset_of w (row_from t target bases w k last) →
          find t target (if a then (if b then seen_from bases w k (before_in w k) else place_at w k ∷ seen_from bases w k (before_in w k)) else seen_from bases w k last)
          ≡ offset_of w (if a then (if (if b then false else same_name t target (row_in w k).statement.name) then suc k else row_from t target bases w k (before_in w k)) else row_from t target bases w k last)
      go true true p q = p
      go true false p q = named (same_name t target (row_in w k).statement.name) refl p
      go false b p q = q

-- ---------------------------------------------------------------- the target

module _ (t : List ℕ) (w : List Row) (target : Span) where
  abbrev compared_from : ℕ → ℕ → ℕ
  compared_from n last = (search_back t target (seen_from false w n last)).compared

  -- as many siblings are looked at as the definition compares names
  looked-compared : (n last : ℕ) → compared_from n last ≡ looked_from t target false w n last
  unfolding looked_from seen_from
  looked-compared zero last = ap (λ (s : Search). s.compared) (search-none t target)
  looked-compared (suc k) last = go (eqb last (suc k)) (looked-compared k (before_in w k)) (looked-compared k last)
    where
      seen : List Place
      seen = seen_from false w k (before_in w k)

      looked : ℕ
      looked = looked_from t target false w k (before_in w k)

      is : Bool
      is = same_name t target (row_in w k).statement.name

      named :
          (c : Bool) →
          is ≡ c →
          (search_back t target seen).compared ≡ looked →
          (search_back t target (place_at w k ∷ seen)).compared ≡ (if c then 1 else suc looked)
      named true q p = ap (λ (s : Search). s.compared) (search-hit t target (place_at w k) seen q)
      named false q p = ap (λ (s : Search). s.compared) (search-miss t target (place_at w k) seen q) ∙ ap suc p

      go :
          (a : Bool) →
          (search_back t target seen).compared ≡ looked →
          compared_from k last ≡ looked_from t target false w k last →
          (search_back t target (if a then place_at w k ∷ seen else seen_from false w k last)).compared
          ≡ (if a then (if is then 1 else suc looked) else looked_from t target false w k last)
      go true p q = named is refl p
      go false p q = q

  -- where the search ends and what it compares is what the definition says
  pub searched :
      (last : ℕ) → {r : SearchEnd} → Ended t target false w last r → search_of w r ≡ search_back t target (seen_at w last)
  unfolding find
  searched last e =
      let n = row_from t target false w last last in
      let found = ap (λ (x : Option ℕ). offset_of w (row_code x)) e.row
      ∙ ap (offset_of w) (code-back n)
      ∙ sym (row-found t w target false last last) in
      let compared = e.looked ∙ sym (looked-compared last last) in
      λ i. record { found = found i; compared = compared i }

  -- it ends at a row of that name
  row_named : (n last : ℕ) → Named t target w (row_from t target false w n last)
  unfolding row_from
  row_named zero last = tt
  row_named (suc k) last =
      let p = row_named k (before_in w k) in
      go (eqb last (suc k)) (same_name t target (row_in w k).statement.name) refl p (row_named k last)
    where
      back : ℕ
      back = row_from t target false w k (before_in w k)

      on : ℕ
      on = row_from t target false w k last

      go :
          (a b : Bool) →
          same_name t target (row_in w k).statement.name ≡ b →
          Named t target w back →
          Named t target w on →
          Named t target w (if a then (if b then suc k else back) else on)
      go true true q p x = q
      go true false q p x = p
      go false b q p x = x

  pub target-named : (last : ℕ) → Named t target w (target_from t target w last)
  target-named last = go (is_given target)
    where
      go : (g : Bool) → Named t target w (if g then row_from t target false w last last else 0)
      go true = row_named last last
      go false = tt

-- ---------------------------------------------------------------- bases

module _ (t : List ℕ) (w : List Row) (target : Span) where
  -- the latest base of a name is searched for from the latest sibling of that name back
  pub base_on : (n last : ℕ) → base_from t target w n last ≡ base_from t target w (row_from t target false w n last) (row_from t target false w n last)
  unfolding row_from
  base_on zero last = refl
  base_on (suc k) last = go (eqb last (suc k)) refl (same_name t target (row_in w k).statement.name) refl (base_on k (before_in w k)) (base_on k last)
    where
      go :
          (a : Bool) →
          eqb last (suc k) ≡ a →
          (b : Bool) →
          same_name t target (row_in w k).statement.name ≡ b →
          base_from t target w k (before_in w k) ≡ base_from t target w (row_from t target false w k (before_in w k)) (row_from t target false w k (before_in w k)) →
          base_from t target w k last ≡ base_from t target w (row_from t target false w k last) (row_from t target false w k last) →
          (if a then (if (if is_given (row_in w k).statement.clauses.redefines then false else same_name t target (row_in w k).statement.name) then suc k else base_from t target w k (before_in w k)) else base_from t target w k last)
          ≡ base_from t target w (if a then (if same_name t target (row_in w k).statement.name then suc k else row_from t target false w k (before_in w k)) else row_from t target false w k last)
          (if a then (if same_name t target (row_in w k).statement.name then suc k else row_from t target false w k (before_in w k)) else row_from t target false w k last)
      go true p true q back on =
          sym (row_here t w target true k)
          ∙ ap (λ (b : Bool). base_from t target w (if b then suc k else row_from t target false w k (before_in w k)) (if b then suc k else row_from t target false w k (before_in w k))) (sym q)
      go true p false q back on =
          ap (λ (b : Bool). if (if is_given (row_in w k).statement.clauses.redefines then false else b) then suc k else base_from t target w k (before_in w k)) q
          ∙ no-base (is_given (row_in w k).statement.clauses.redefines)
          ∙ back
          ∙ ap (λ (b : Bool). base_from t target w (if b then suc k else row_from t target false w k (before_in w k)) (if b then suc k else row_from t target false w k (before_in w k))) (sym q)
        where
          no-base : (g : Bool) → (if (if g then false else false) then suc k else base_from t target w k (before_in w k)) ≡ base_from t target w k (before_in w k)
          no-base true = refl
          no-base false = refl
      go false p b q back on = on

  -- what is found from the sibling `last` back, and the base that is
  abbrev pub found : Bool → ℕ → ℕ
  found bases last = row_from t target bases w last last

  pub found_none : (bases : Bool) → found bases 0 ≡ 0
  unfolding row_from
  found_none bases = refl

  pub found-step :
      (bases : Bool) (k last : ℕ) →
      before_in w k ≡ last →
      last ≤ k →
      found bases (suc k) ≡ (if is_target t target bases w k then suc k else found bases last)
  found-step bases k last e l =
      row_here t w target bases k
      ∙ ap (λ (x : ℕ). if is_target t target bases w k then suc k else x)
      (ap (row_from t target bases w k) e ∙ row_low t w target bases k last l)

  abbrev pub back : ℕ → ℕ
  back last = found true last

  pub back_none : back 0 ≡ 0
  back_none = found_none true

  pub back_step :
      (k last : ℕ) →
      before_in w k ≡ last →
      last ≤ k →
      back (suc k) ≡ (if is_target t target true w k then suc k else back last)
  back_step = found-step true

-- they are read from the rows before
row_same :
    (t : List ℕ) (target : Span) (bases : Bool) (w w' : List Row) (n last : ℕ) →
    ((k : ℕ) → k < n → row_in w k ≡ row_in w' k) →
    row_from t target bases w n last ≡ row_from t target bases w' n last
unfolding row_from
row_same t target bases w w' zero last h = refl
row_same t target bases w w' (suc k) last h =
    let back = row_same t target bases w w' k (before_in w k) (λ j l. h j (omega arith)) in
    let on = row_same t target bases w w' k last (λ j l. h j (omega arith)) in
    cc (h k (omega arith), back, on)

-- what the REDEFINES of row k finds, where its statement and the rows before are the same
pub after_same :
    (t : List ℕ) (bases : Bool) (w w' : List Row) (k last : ℕ) →
    (row_in w k).statement ≡ (row_in w' k).statement →
    ((target : Span) → row_from t target bases w last last ≡ row_from t target bases w' last last) →
    let r = (row_in w k).statement.clauses.redefines in
    let r' = (row_in w' k).statement.clauses.redefines in
    (if is_given r then row_from t r bases w last last else 0) ≡ (if is_given r' then row_from t r' bases w' last last else 0)
after_same t bases w w' k last e same =
    ap (λ (s : Statement). if is_given s.clauses.redefines then row_from t s.clauses.redefines bases w last last else 0) e
    ∙ ap (λ (n : ℕ). if is_given (row_in w' k).statement.clauses.redefines then n else 0) (same (row_in w' k).statement.clauses.redefines)

pub searched_same :
    (t : List ℕ) (bases : Bool) (w w' : List Row) (k last : ℕ) →
    (row_in w k).statement ≡ (row_in w' k).statement →
    ((j : ℕ) → j < last → row_in w j ≡ row_in w' j) →
    let r = (row_in w k).statement.clauses.redefines in
    let r' = (row_in w' k).statement.clauses.redefines in
    (if is_given r then row_from t r bases w last last else 0) ≡ (if is_given r' then row_from t r' bases w' last last else 0)
searched_same t bases w w' k last e h =
    after_same t bases w w' k last e (λ target. row_same t target bases w w' last last h)

-- ---------------------------------------------------------------- what places an item

pub plain-next :
    (w w' : List Row) (k : ℕ) →
    (row_in w k).statement ≡ (row_in w' k).statement →
    (row_in w k).place.plain ≡ (row_in w' k).place.plain →
    plain_after w (suc k) ≡ plain_after w' (suc k)
plain-next w w' k e p =
    ap₂ (λ (s : Statement) (o : Option ℕ). if is_given s.clauses.redefines then row_code o else suc k) e p

pub plain-same : (w w' : List Row) (last : ℕ) → ((j : ℕ) → j < last → row_in w j ≡ row_in w' j) → plain_after w last ≡ plain_after w' last
plain-same w w' zero h = refl
plain-same w w' (suc k) h =
    let e = h k (omega arith) in
    plain-next w w' k (ap (λ (r : Row). r.statement) e) (ap (λ (r : Row). r.place.plain) e)
