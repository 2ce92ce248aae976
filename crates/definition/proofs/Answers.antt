-- Laws of answers: what a `do` that gave something, or was refused, went through, and what a `?` returns.
-- Assumes nothing.
use mathlib.Core.Path.{◌≡◌, refl, ap}
use mathlib.Core.Bool.{Bool, false}
use native.Mathlib.Omega.{arith}
use Rattle.std.specs.Prelude.{Result, IsErrAnd}
use Rattle.definition.specs.declared.Refusal.{Refusal}
use Rattle.definition.specs.Basic.{Answer, Err, Ok, ◌>>=◌, and_then, refuse_if}

-- what was given is handed on, and a refusal stays
pub give-next : {A B : Type 0} (a : A) (f : A → Answer B) → (Ok a >>= f) ≡ f a
unfolding and_then
give-next a f = refl

pub refuse-next : {A B : Type 0} (r : Refusal) (f : A → Answer B) → (Err r >>= f) ≡ Err r
unfolding and_then
refuse-next r f = refl

-- a `do` that gave something went through its first line
pub record Bound {A B : Type 0} (a : Answer A) (f : A → Answer B) (b : B) : Type 0 where
  pub value : A
  pub first : a ≡ Ok value
  pub rest : f value ≡ Ok b

pub bound : {A B : Type 0} (a : Answer A) (f : A → Answer B) {b : B} → (a >>= f) ≡ Ok b → Bound a f b
unfolding and_then
bound (Err r) f h = absurd (cc)
bound (Ok a) f h = record { value = a; first = refl; rest = h }

-- the same, handed on: the value stands as a variable in what follows, so terms stay small over many lines
pub through :
    {A B C : Type 0} (a : Answer A) (f : A → Answer B) {b : B} →
    (a >>= f) ≡ Ok b →
    ((x : A) → a ≡ Ok x → f x ≡ Ok b → C) →
    C
through a f h k = let b = bound a f h in k b.value b.first b.rest

-- what was given is the same where the answers are
pub given-same : {A : Type 0} {a b : A} → ◌≡◌ {A = Answer A} (Ok a) (Ok b) → a ≡ b
given-same h = cc

-- a refusal of a mapped answer is the answer's
pub map-refused : {A B : Type 0} (f : A → B) (a : Answer A) {r : Refusal} → (a >>= λ x. Ok (f x)) ≡ Err r → a ≡ Err r
unfolding and_then
map-refused f a h = grind arith

-- a check that did not refuse was false
pub not-refused : (b : Bool) (r : Refusal) {u : Unit {0}} → refuse_if b r ≡ Ok u → b ≡ false
not-refused b r h = grind arith

-- a refusal of two lines is one of any lines after them
pub refused-through :
    {A B C : Type 0} (a : Answer A) (f : A → Answer B) (g : A → B → Answer C) (r : Refusal) →
    (a >>= f) ≡ Err r →
    (a >>= λ x. f x >>= g x) ≡ Err r
unfolding and_then
refused-through a f g r h = grind arith

-- a `?` that returns hands on the error that it met
pub handed_on : {T E : Type 0} (r : Result T E) {e : E} → IsErrAnd r (λ x. x ≡ e) → r ≡ Err e
handed_on (Ok x) h = absurd h
handed_on (Err x) h = ap Err h
