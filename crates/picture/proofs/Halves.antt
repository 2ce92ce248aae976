-- Laws of what is awaited of CR or DB: no state changes after a byte's second copy, and a list is legal if nothing is
-- awaited at its end.
-- Assumes nothing.
use Prim.Native.Nat.{ℕ, zero, suc}
use mathlib.Core.Path.{◌≡◌, refl, sym, ◌∙◌}
use mathlib.Core.Bool.{Bool, true, false}
use mathlib.Core.List.{List, [], ◌∷◌, ◌++◌}
use native.Mathlib.Omega.{arith}
use lib.Dec.{eqb}
use lib.ListN.{replicate}
use borrow.Author.Tests.{eqb-true}
use Rattle.definition.specs.Basic.{is}
use Rattle.definition.specs.Picture.{symbol, legal}
use Rattle.picture.specs.declared.symbols.Half.{Half}
use Rattle.picture.specs.Shape.{awaits, halves, nothing}

-- two lists, one after the other
pub halves-append : (p : Half) (l m : List ℕ) → halves p (l ++ m) ≡ halves (halves p l) m
unfolding halves
halves-append p [] m = refl
halves-append p (b ∷ l) m = halves-append (awaits p b) l m

-- a byte that is this one
known : {A : Type 0} (b k : ℕ) (f g : ℕ → A) → f k ≡ g k → eqb b k ≡ true → f b ≡ g b
known b k f g h e = rw (eqb-true b k e) h

-- after two copies of a byte
abbrev twice : Half → ℕ → Half
twice p b = awaits (awaits p b) b

-- the third copy changes nothing: where nothing is awaited, after a C, after a D, at last in any state
plain : (b : ℕ) (c d s : Bool) → is "C" b ≡ c → is "D" b ≡ d → symbol b ≡ s → awaits (twice Half.Nothing b) b ≡ twice Half.Nothing b
plain b true d s ec ed es = known b 67 (λ b. awaits (twice Half.Nothing b) b) (twice Half.Nothing) refl ec
plain b false true s ec ed es = known b 68 (λ b. awaits (twice Half.Nothing b) b) (twice Half.Nothing) refl ed
plain b false false true ec ed es =
    let e : awaits Half.Nothing b ≡ Half.Nothing = rw (ec, ed, es) in
    rw (e, e, e)
plain b false false false ec ed es =
    let e : awaits Half.Nothing b ≡ Half.Wrong = rw (ec, ed, es) in
    rw e

after-c : (b : ℕ) (r : Bool) → is "R" b ≡ r → awaits (twice Half.C b) b ≡ twice Half.C b
after-c b true e = known b 82 (λ b. awaits (twice Half.C b) b) (twice Half.C) refl e
after-c b false e = let q : awaits Half.C b ≡ Half.Wrong = rw e in rw q

after-d : (b : ℕ) (r : Bool) → is "B" b ≡ r → awaits (twice Half.D b) b ≡ twice Half.D b
after-d b true e = known b 66 (λ b. awaits (twice Half.D b) b) (twice Half.D) refl e
after-d b false e = let q : awaits Half.D b ≡ Half.Wrong = rw e in rw q

still : (p : Half) (b : ℕ) → awaits (twice p b) b ≡ twice p b
still Half.Nothing b = plain b (is "C" b) (is "D" b) (symbol b) refl refl refl
still Half.C b = after-c b (is "R" b) refl
still Half.D b = after-d b (is "B" b) refl
still Half.Wrong b = refl

-- so no later copy does
staying : (p : Half) (b n : ℕ) → awaits p b ≡ p → halves p (replicate n b) ≡ p
unfolding halves
staying p b zero e = refl
staying p b (suc n) e = rw (e, halves) (staying p b n e)

-- two copies or more
pub halves-more : (p : Half) (b n : ℕ) → halves p (replicate (suc (suc n)) b) ≡ awaits (awaits p b) b
unfolding halves
halves-more p b n = staying (twice p b) b n (still p b)

-- where nothing is awaited, a symbol changes nothing; C and D are none
symbol-next : (b : ℕ) (c d : Bool) → is "C" b ≡ c → is "D" b ≡ d → symbol b ≡ true → awaits Half.Nothing b ≡ Half.Nothing
symbol-next b true d ec ed h = absurd (let e = rw (eqb-true b 67 ec) at h in let z : ◌≡◌ {A = ℕ} 0 1 = cc in omega arith)
symbol-next b false true ec ed h = absurd (let e = rw (eqb-true b 68 ed) at h in let z : ◌≡◌ {A = ℕ} 0 1 = cc in omega arith)
symbol-next b false false ec ed h = rw (ec, ed, h)

pub halves-symbol : (p : Half) (b n : ℕ) {x y : Bool} → x ≡ nothing p → x ≡ true → y ≡ symbol b → y ≡ true → p ≡ halves p (replicate n b)
halves-symbol Half.Nothing b n l x s y = sym (staying Half.Nothing b n (symbol-next b (is "C" b) (is "D" b) refl refl (sym s ∙ y)))
halves-symbol Half.C b n l x s y = absurd (let z : ◌≡◌ {A = ℕ} 0 1 = cc in omega arith)
halves-symbol Half.D b n l x s y = absurd (let z : ◌≡◌ {A = ℕ} 0 1 = cc in omega arith)
halves-symbol Half.Wrong b n l x s y = absurd (let z : ◌≡◌ {A = ℕ} 0 1 = cc in omega arith)

-- a byte that is no symbol is not forgotten
wrong_stays : (l : List ℕ) → halves Half.Wrong l ≡ Half.Wrong
unfolding halves
wrong_stays [] = refl
wrong_stays (b ∷ l) = wrong_stays l

-- so such a list is not legal
wrong-ends : {p : Half} (l : List ℕ) → p ≡ Half.Wrong → false ≡ nothing (halves p l)
wrong-ends l e = rw (e, wrong_stays l)

-- after a C, after a D
legal-c :
    (b : ℕ) (l : List ℕ) (r : Bool) →
    is "R" b ≡ r →
    legal l ≡ nothing (halves Half.Nothing l) →
    legal (67 ∷ b ∷ l) ≡ nothing (halves Half.C (b ∷ l))
unfolding legal halves
legal-c b l true e two = rw (e, legal) two
legal-c b l false e two = rw (e, legal) (wrong-ends l refl)

legal-d :
    (b : ℕ) (l : List ℕ) (r : Bool) →
    is "B" b ≡ r →
    legal l ≡ nothing (halves Half.Nothing l) →
    legal (68 ∷ b ∷ l) ≡ nothing (halves Half.D (b ∷ l))
unfolding legal halves
legal-d b l true e two = rw (e, legal) two
legal-d b l false e two = rw (e, legal) (wrong-ends l refl)

-- a list is legal if nothing is awaited at its end
pub legal-halves : (l : List ℕ) → legal l ≡ nothing (halves Half.Nothing l)
unfolding legal halves
legal-halves [] = refl
legal-halves (a ∷ []) = go (is "C" a) (is "D" a) (symbol a) refl refl refl
  where
    go : (c d s : Bool) → is "C" a ≡ c → is "D" a ≡ d → symbol a ≡ s → symbol a ≡ nothing (awaits Half.Nothing a)
    go true d s ec ed es = known a 67 symbol (λ b. nothing (awaits Half.Nothing b)) refl ec
    go false true s ec ed es = known a 68 symbol (λ b. nothing (awaits Half.Nothing b)) refl ed
    go false false true ec ed es = rw (ec, ed, es)
    go false false false ec ed es = rw (ec, ed, es)
legal-halves (a ∷ b ∷ l) = go (is "C" a) (is "D" a) (symbol a) refl refl refl (legal-halves l) (legal-halves (b ∷ l))
  where
    go :
        (c d s : Bool) →
        is "C" a ≡ c →
        is "D" a ≡ d →
        symbol a ≡ s →
        legal l ≡ nothing (halves Half.Nothing l) →
        legal (b ∷ l) ≡ nothing (halves Half.Nothing (b ∷ l)) →
        legal (a ∷ b ∷ l) ≡ nothing (halves (awaits Half.Nothing a) (b ∷ l))
    go true d s ec ed es two one = rw (eqb-true a 67 ec) (legal-c b l (is "R" b) refl two)
    go false true s ec ed es two one = rw (eqb-true a 68 ed) (legal-d b l (is "B" b) refl two)
    go false false true ec ed es two one = rw (ec, ed, es, legal) one
    go false false false ec ed es two one = rw (ec, ed, es, legal) (wrong-ends l refl)

-- the third and later copies change nothing
pub halves-none : (p : Half) (b n : ℕ) → n ≡ 0 → halves p (replicate n b) ≡ p
unfolding halves
halves-none p b n e = rw e

pub halves-once : (p : Half) (b n : ℕ) → n ≡ 1 → halves p (replicate n b) ≡ awaits p b
unfolding halves
halves-once p b n e = rw e

pub halves-later : (p : Half) (b n : ℕ) → (n ≡ 0 → ⊥) → (n ≡ 1 → ⊥) → halves p (replicate n b) ≡ awaits (awaits p b) b
halves-later p b zero z o = absurd (z refl)
halves-later p b (suc zero) z o = absurd (o refl)
halves-later p b (suc (suc n)) z o = halves-more p b n

pub halves-still : (p : Half) (b n : ℕ) → nothing p ≡ true → symbol b ≡ true → halves p (replicate n b) ≡ p
halves-still p b n h s = sym (halves-symbol p b n (sym h) refl (sym s) refl)

pub ruleset half_steps = (halves-none, halves-once, halves-later, halves-still)
