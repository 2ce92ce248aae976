-- Laws of what a call writes to the lent `answer`: numbers at its front, where it has room, and nothing where it has
-- not.
-- Assumes nothing.
use Prim.Native.Nat.{ℕ, zero, suc, ◌-◌, ◌<◌, ◌≤◌}
use mathlib.Core.Path.{◌≡◌, ap}
use mathlib.Core.List.{List, ◌∷◌, ◌++◌}
use lib.ListN.{length, set, drop, replicate}
use native.Mathlib.Omega.{arith}
use borrow.Author.Tests.{lt-ltb, le-ltb}
use Rattle.copybook_c.specs.Numbers.{answered}

pub short : (numbers answer : List ℕ) → length answer < length numbers → answered numbers answer ≡ answer
unfolding answered
short numbers answer h = rw (lt-ltb (length answer) (length numbers) h)

pub stored : (numbers answer : List ℕ) → length numbers ≤ length answer → answered numbers answer ≡ numbers ++ drop (length numbers) answer
unfolding answered
stored numbers answer h = rw (le-ltb (length answer) (length numbers) h)

-- two numbers before zeros
pub two_first : (n a b : ℕ) → 2 ≤ n → set (set (replicate n 0) 0 a) 1 b ≡ a ∷ b ∷ replicate (n - 2) 0
two_first zero a b h = absurd (omega arith)
two_first (suc zero) a b h = absurd (omega arith)
two_first (suc (suc n)) a b h = let e : n ≡ suc (suc n) - 2 = omega arith in ap (λ k. a ∷ b ∷ replicate k 0) e

pub ruleset answer_steps = (short, stored, two_first)
