-- Laws of the rows: a row and its number; statements depend on their rows alone.
-- Assumes nothing.
use Rattle.std.specs.Prelude.{Option, None, Some}
use Prim.Native.Nat.{ℕ, zero, suc, ◌+◌, ◌<◌}
use mathlib.Core.Path.{◌≡◌, refl, sym, ap, ap₂, ◌∙◌}
use mathlib.Core.List.{List, [], ◌∷◌}
use native.Mathlib.Omega.{arith}
use Rattle.std.proofs.lemmas.Bool.Decides.{nat_tests}
use lib.ListN.{length, get_or, set}
use Rattle.definition.specs.declared.Statement.{Statement}
use Rattle.rows.specs.declared.Row.{Row}
use Rattle.rows.specs.Rows.{row_of_code, row_code, row_in, no_statement, statement_at, statements_from}

-- a row and its number
pub row-back : (k : ℕ) → row_of_code (suc k) ≡ Some k
row-back k = grind (arith, nat_tests)

pub code-back : (n : ℕ) → row_code (row_of_code n) ≡ n
code-back zero = refl
code-back (suc k) = ap row_code (row-back k)

pub of-code : (o : Option ℕ) → row_of_code (row_code o) ≡ o
of-code None = refl
of-code (Some k) = row-back k

pub row-none : {n : ℕ} → row_of_code n ≡ None → n ≡ 0
row-none {n} e = sym (code-back n) ∙ ap row_code e

pub row-some : {n k : ℕ} → row_of_code n ≡ Some k → n ≡ suc k
row-some {n} e = sym (code-back n) ∙ ap row_code e

-- what a store in row a leaves alone of that row, it leaves alone of each
pub set_keeps :
    {A : Type 0} (f : Row → A) (w : List Row) (a k : ℕ) {r : Row} →
    f r ≡ f (row_in w a) →
    f (row_in (set w a r) k) ≡ f (row_in w k)
set_keeps f [] a k h = refl
set_keeps f (x ∷ xs) zero zero h = h
set_keeps f (x ∷ xs) zero (suc k) h = refl
set_keeps f (x ∷ xs) (suc a) zero h = refl
set_keeps f (x ∷ xs) (suc a) (suc k) h = set_keeps f xs a k h

-- statements depend on their rows alone
pub statements-same :
    (w w' : List Row) →
    ((k : ℕ) → statement_at w k ≡ statement_at w' k) →
    (k n : ℕ) →
    statements_from w k n ≡ statements_from w' k n
unfolding statements_from
statements-same w w' h k zero = refl
statements-same w w' h k (suc n) =
    ap₂ (λ (x : Statement) (xs : List Statement). x ∷ xs) (h k) (statements-same w w' h (suc k) n)

pub length-statements : (w : List Row) (a n : ℕ) → length (statements_from w a n) ≡ n
unfolding statements_from
length-statements w a zero = refl
length-statements w a (suc n) = ap suc (length-statements w (suc a) n)

-- rows that hold these statements
pub statements-by :
    (w : List Row) (ss : List Statement) (k : ℕ) →
    ((j : ℕ) → j < length ss → statement_at w (k + j) ≡ get_or ss j no_statement) →
    statements_from w k (length ss) ≡ ss
unfolding statements_from
statements-by w [] k h = refl
statements-by w (s ∷ ss) k h =
    let first : statement_at w k ≡ s = ap (statement_at w) (let e : k ≡ k + 0 = omega arith in e) ∙ h 0 (omega arith) in
    let more = statements-by w ss (suc k) (λ j l. ap (statement_at w) (let e : suc k + j ≡ k + suc j = omega arith in e) ∙ h (suc j) (omega arith)) in
    ap₂ (λ (x : Statement) (xs : List Statement). x ∷ xs) first more
