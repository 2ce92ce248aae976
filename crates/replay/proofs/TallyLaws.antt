-- What a tally is behind the cases of a list, one case after the other.
-- Assumes nothing.
use Rattle.std.proofs.Common.{ℕ, ◌≡◌, ◌+◌, ◌≤◌, min, true, false, Bool, List, [], ◌∷◌, arith, refl, sym}
use Rattle.std.proofs.lemmas.Bool.Decides.{nat_tests}
use Rattle.std.proofs.lemmas.Grind.{common_steps}
use Rattle.definition.specs.declared.Token.{Token}
use Rattle.definition.specs.declared.Token.TheVariants.{Word, Stop, Open}
use Rattle.replay.specs.declared.tally.Tally.{Tally}
use Rattle.replay.specs.Tallies.{most, counted, agreeing, first_of}
use Rattle.replay.specs.Words.{begins, first_case, behind_case}
use Rattle.replay.specs.Counting.{begun, Onward}

-- ---------------------------------------------------------------- cases

at-first : (ts : List Token) → begun false (first_case ts) ≡ begun false ts
at-first [] = refl
at-first (Word w ∷ ts) = refl
at-first (Stop p ∷ ts) = at-first ts
at-first (Open p ∷ ts) = refl

at-behind : (ts : List Token) → begun true ts ≡ begun false (behind_case ts)
at-behind [] = refl
at-behind (Word w ∷ ts) = let b = at-behind ts in omega arith
at-behind (Stop p ∷ ts) = refl
at-behind (Open p ∷ ts) = refl

from-word : (ts : List Token) → begins ts ≡ true → begun false ts ≡ 1 + begun false (behind_case ts)
from-word [] e = cc
from-word (Word w ∷ ts) e = let b = at-behind ts in omega arith
from-word (Stop p ∷ ts) e = cc
from-word (Open p ∷ ts) e = cc

pub none_more : (ts : List Token) → begins (first_case ts) ≡ false → begun false ts ≡ 0
none_more [] e = refl
none_more (Word w ∷ ts) e = cc
none_more (Stop p ∷ ts) e = none_more ts e
none_more (Open p ∷ ts) e = refl

-- a case more
pub one_more :
    (ts us : List Token) →
    begins (first_case ts) ≡ true →
    us ≡ behind_case (first_case ts) →
    begun false ts ≡ 1 + begun false us
one_more ts us b e = let f = at-first ts in let w = from-word (first_case ts) b in rw e (omega arith)

-- ---------------------------------------------------------------- tallies

pub onward-none : (s : Tally) → Onward s s
onward-none s = record {
  cases = omega arith;
  agreeing = omega arith;
  differing = omega arith;
  first = λ n e. e;
}

pub onward-add :
    (s t u : Tally) (b : Bool) →
    Onward s t →
    u.cases ≡ counted t.cases →
    u.agree ≡ agreeing t.cases t.agree b →
    u.first_difference ≡ first_of t.cases t.first_difference b →
    Onward s u
onward-add s t u b o c a f =
    let oc = o.cases in let oa = o.agreeing in let od = o.differing in
    record {
      cases = grind (arith, nat_tests);
      agreeing = grind (arith, nat_tests, common_steps);
      differing = grind (arith, nat_tests, common_steps);
      first = λ n e. rw (f, o.first n e) refl;
    }

pub onward-trans : (s t u : Tally) → Onward s t → Onward t u → Onward s u
onward-trans s t u p q =
    let pc = p.cases in let pa = p.agreeing in let pd = p.differing in
    let qc = q.cases in let qa = q.agreeing in let qd = q.differing in
    record {
      cases = omega arith;
      agreeing = omega arith;
      differing = omega arith;
      first = λ n e. q.first n (p.first n e);
    }

pub ruleset tally_steps = (onward-none, onward-add, onward-trans)

-- ---------------------------------------------------------------- the cases of a list

one-counted : (c d r : ℕ) → d ≡ counted c → min most (d + r) ≡ min most (c + (1 + r))
one-counted c d r e = grind (arith, nat_tests)

-- a case of those that are to come was counted
pub going-on :
    (c d all : ℕ) (ts us vs : List Token) →
    d ≡ counted c →
    begins (first_case ts) ≡ true →
    us ≡ first_case ts →
    vs ≡ behind_case us →
    min most (c + begun false ts) ≡ all →
    min most (d + begun false vs) ≡ all
going-on c d all ts us vs e b u v h =
    let m = one_more ts vs b (rw (v, u) refl) in
    rw (one-counted c d (begun false vs) e, sym m, h) refl

-- none is to come
pub going-ends :
    (c all : ℕ) (ts : List Token) →
    c ≤ most →
    begins (first_case ts) ≡ false →
    min most (c + begun false ts) ≡ all →
    c ≡ all
going-ends c all ts l b h = let n = none_more ts b in omega arith
