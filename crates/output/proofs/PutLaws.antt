-- Laws of bytes that were put: some after others, and what stands in the output then.
-- Assumes nothing.
use Prim.Native.Nat.{ℕ, ◌+◌, ◌-◌, ◌*◌, ◌%◌, ◌≤◌}
use mathlib.Core.Path.{◌≡◌, refl, sym, ap, subst, ◌∙◌}
use mathlib.Core.List.{List, [], ◌++◌, append_assoc, append-nil}
use native.Mathlib.Nat.{zero-add}
use native.Mathlib.Omega.{arith}
use lib.ListN.{length, drop, length-append}
use lib.Seq.{sets, sets-eq, take_all}
use borrow.Rule.Slice.PartMut.{put_mid}
use borrow.Author.Tests.{le-ltb}
use Rattle.definition.specs.Basic.{Ok, le4, le8}
use Rattle.definition.specs.Calls.{fitting, left, after_writing}
use Rattle.std.proofs.lemmas.Slice.{put_mid-paste}
use Rattle.definition.proofs.Lists.{sets-append}
use Rattle.output.specs.Puts.{Countable, Put, Puts}
use Rattle.output.specs.declared.Sink.{Sink}

-- nothing is put
pub puts-none : (s : Sink) → Puts s [] s
puts-none s = record { name = refl; put = record { next = omega arith; same = refl } }

infixl 5 ◌and◌
module _ {s s' : Sink} {xs : List ℕ} (p : Puts s xs s') where
  -- bytes, then others
  pub ◌and◌ : {ys : List ℕ} {s'' : Sink} → Puts s' ys s'' → Puts s (xs ++ ys) s''
  ◌and◌ {ys} q =
      record {
        name = q.name ∙ p.name;
        put = record {
          next = rw (length-append xs ys) (omega (arith, p.put.next, q.put.next));
          same = rw (sets-append xs ys s.out.now s.at, ← p.put.same, ← p.put.next) q.put.same;
        };
      }

-- two numbers in four bytes each are one in eight
pub pair_bytes : (x y : ℕ) → le8 (x % 4294967296 + y % 4294967296 * 4294967296) ≡ le4 x ++ le4 y
pair_bytes x y = grind arith

pub ruleset pair_steps = (pair_bytes)

-- of these bytes the first were put, and the rest is left
pub record Left (s : Sink) (all rest : List ℕ) (s' : Sink) : Type 0 where
  pub done : List ℕ
  pub put : Puts s done s'
  pub same : all ≡ done ++ rest

pub left-all : (s : Sink) (all : List ℕ) → Left s all all s
left-all s all = record { done = []; put = puts-none s; same = refl }

module _ {s s' : Sink} {all rest : List ℕ} (l : Left s all rest s') where
  pub left-none : rest ≡ [] → Puts s all s'
  left-none e =
      subst (λ (bs : List ℕ). Puts s bs s') (sym (l.same ∙ ap (λ (r : List ℕ). l.done ++ r) e ∙ append-nil l.done)) l.put

  pub left-on : {xs more : List ℕ} → rest ≡ xs ++ more → {s'' : Sink} → Puts s' xs s'' → Left s all more s''
  left-on {xs} {more} e p =
      record {
        done = l.done ++ xs;
        put = l.put and p;
        same = l.same ∙ ap (λ (r : List ℕ). l.done ++ r) e ∙ sym (append_assoc l.done xs more);
      }

  pub left-countable : (xs more : List ℕ) → rest ≡ xs ++ more → Countable s.at all → Countable s'.at xs
  left-countable xs more e c =
      omega (arith, c, l.put.put.next, ap length l.same, length-append l.done rest, ap length e, length-append xs more)

-- a part of an output that was written over
pub put-part :
    (out bs : List ℕ) (at n : ℕ) {ys : List ℕ} →
    ys ≡ bs → n ≡ length bs → at + n ≤ length out → put_mid at (at + n - at) out ys ≡ sets out at bs
put-part out bs at n {ys} f e h =
    put_mid-paste at (at + n - at) out ys bs n f (omega arith) e
    ∙ rw e (rw (take_all (length bs) bs (omega arith)) (sym (sets-eq bs out at (omega arith))))

-- where they fit, the output begins with the bytes, and the rest is as before
pub put_first : {out bs : List ℕ} {r : ℕ} {after : List ℕ} → Put out 0 bs r after → length bs ≤ length out → after ≡ bs ++ drop (length bs) out
put_first {out} {bs} p h =
    let e : 0 + length bs ≡ length bs = zero-add (length bs) in
    p.same ∙ sets-eq bs out 0 (omega arith) ∙ rw e

-- where they fit, that is what a call answers and leaves
pub room :
    (bs out : List ℕ) {n : ℕ} → n ≡ length bs → n ≤ length out → {m : ℕ} {o : List ℕ} → Put out 0 bs m o →
    left (Ok n) o [] ≡ after_writing (fitting (length out) bs) out []
room bs out e h p = rw (le-ltb (length out) (length bs) (omega arith), e, put_first p (omega arith))
