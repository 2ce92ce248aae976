-- A text has no more statements than periods, and one: each but the last ends in a period.
-- Assumes nothing.
use Rattle.std.specs.Prelude.{◌==◌, if◌then◌else◌}
use Rattle.std.proofs.lemmas.List.Sums.{sum_by-cons}
use Prim.Native.Nat.{ℕ, suc, ◌+◌, ◌-◌, ◌≤◌}
use mathlib.Core.Bool.{Bool, true, false, cond, ◌&&◌}
use mathlib.Core.List.{List, [], ◌∷◌, ◌++◌}
use native.Mathlib.Omega.{arith}
use lib.ListN.{length}
use Rattle.definition.specs.declared.Span.{Span}
use Rattle.definition.specs.declared.ByteKind.{ByteKind}
use Rattle.definition.specs.declared.ByteKind.TheVariants.{Newline, Blank, Cut, Star, Period, Other}
use Rattle.definition.specs.declared.Mode.{Mode}
use Rattle.definition.specs.declared.Mode.TheVariants.{Fresh, Between, Dropped, Within}
use Rattle.definition.specs.declared.LiteralState.{LiteralState}
use Rattle.definition.specs.declared.LiteralState.TheVariants.{Before, Value, Literal}
use Rattle.definition.specs.declared.Token.{Token}
use Rattle.definition.specs.declared.Token.TheVariants.{Word, Stop}
use Rattle.definition.specs.Basic.{span}
use Rattle.definition.specs.Words.{byte_kind, next, completed, completed_end, seen, said_next, unless_open, on_first, sentences, tokens}
use Rattle.statement.specs.TreeReading.{periods}

abbrev sentences# : List Token → ℕ
sentences# ts = length (sentences ts)

-- 1 for what ends a statement
abbrev stop# : ByteKind → ℕ
stop# k = elim k [ Newline ↦ 0 | Blank ↦ 0 | Cut ↦ 0 | Star ↦ 0 | Period ↦ 1 | Other ↦ 0 ]

-- 1 for a period
abbrev pub period# : ℕ → ℕ
period# b = cond (b == 46) 1 0

-- ---------------------------------------------------------------- a byte

stop-test : (a b c d p e : Bool) → stop# (if a then Newline else if b then Blank else if c then Cut else if d then Star else if p && e then Period else Other) ≤ cond p 1 0
stop-test true b c d p e = omega arith
stop-test false true c d p e = omega arith
stop-test false false true d p e = omega arith
stop-test false false false true p e = omega arith
stop-test false false false false true true = omega arith
stop-test false false false false true false = omega arith
stop-test false false false false false e = omega arith

stop-byte : (b : ℕ) (bs : List ℕ) → stop# (byte_kind b bs) ≤ period# b
unfolding byte_kind
stop-byte b bs = stop-test _ _ _ _ _ _

stop-seen : (q : LiteralState) (k : ByteKind) → stop# (seen q k) ≤ stop# k
stop-seen (Before n) k = omega arith
stop-seen Value k = omega arith
stop-seen (Literal mark at) Newline = omega arith
stop-seen (Literal mark at) Blank = omega arith
stop-seen (Literal mark at) Cut = omega arith
stop-seen (Literal mark at) Star = omega arith
stop-seen (Literal mark at) Period = omega arith
stop-seen (Literal mark at) Other = omega arith

-- ---------------------------------------------------------------- tokens

on-first# : (w : Span) (n : ℕ) (wss : List (List Span)) → length wss ≤ suc n → length (on_first w wss) ≤ suc n
on-first# w n [] h = omega arith
on-first# w n (ws ∷ wss) h = h

module _ (n : ℕ) (ts : List Token) (h : sentences# ts ≤ suc n) where
  with-word : (w : Span) → sentences# (Word w ∷ ts) ≤ suc n
  unfolding sentences
  with-word w = on-first# w n (sentences ts) h

  with-stop : (p : ℕ) → sentences# (Stop p ∷ ts) ≤ suc (suc n)
  unfolding sentences
  with-stop p = omega arith

  with-open : (q : LiteralState) (k : ByteKind) → sentences# (unless_open q k ts) ≤ suc n
  unfolding sentences
  with-open (Before m) k = h
  with-open Value k = h
  with-open (Literal mark at) Newline = omega arith
  with-open (Literal mark at) Blank = h
  with-open (Literal mark at) Cut = h
  with-open (Literal mark at) Star = h
  with-open (Literal mark at) Period = h
  with-open (Literal mark at) Other = h

completed# : (n : ℕ) (ts : List Token) → sentences# ts ≤ suc n → (m : Mode) (p : ℕ) (k : ByteKind) → sentences# (completed m p k ++ ts) ≤ suc (n + stop# k)
completed# n ts h Dropped p k = omega arith
completed# n ts h Fresh p Period = omega (arith, with-stop n ts h p)
completed# n ts h Fresh p Newline = omega arith
completed# n ts h Fresh p Blank = omega arith
completed# n ts h Fresh p Cut = omega arith
completed# n ts h Fresh p Star = omega arith
completed# n ts h Fresh p Other = omega arith
completed# n ts h Between p Period = omega (arith, with-stop n ts h p)
completed# n ts h Between p Newline = omega arith
completed# n ts h Between p Blank = omega arith
completed# n ts h Between p Cut = omega arith
completed# n ts h Between p Star = omega arith
completed# n ts h Between p Other = omega arith
completed# n ts h (Within s) p Period = omega (arith, with-word (suc n) (Stop p ∷ ts) (with-stop n ts h p) (span s (p - s)))
completed# n ts h (Within s) p Newline = omega (arith, with-word n ts h (span s (p - s)))
completed# n ts h (Within s) p Blank = omega (arith, with-word n ts h (span s (p - s)))
completed# n ts h (Within s) p Cut = omega (arith, with-word n ts h (span s (p - s)))
completed# n ts h (Within s) p Star = omega arith
completed# n ts h (Within s) p Other = omega arith

completed_end# : (q : LiteralState) (m : Mode) (p : ℕ) → sentences# (completed_end m p ++ unless_open q Newline []) ≤ 1
unfolding sentences
completed_end# q m p =
    let last = with-open 0 [] (omega arith) q Newline in
    elim m as (λ (x : Mode). sentences# (completed_end x p ++ unless_open q Newline []) ≤ 1) [
      | Fresh ↦ last
      | Between ↦ last
      | Dropped ↦ last
      | Within s ↦ with-word 0 (unless_open q Newline []) last _
    ]

pub few-sentences : (text : List ℕ) (q : LiteralState) (m : Mode) (p : ℕ) (bs : List ℕ) → length (sentences (tokens text q m p bs)) ≤ suc (periods bs)
unfolding tokens
few-sentences text q m p [] = completed_end# q m p
few-sentences text q m p (b ∷ bs) =
    let k = seen q (byte_kind b bs) in
    let rest = tokens text (said_next text q m p b k) (next m p k) (p + 1) bs in
    let ih = few-sentences text (said_next text q m p b k) (next m p k) (p + 1) bs in
    let now = completed# (periods bs) (unless_open q k rest) (with-open (periods bs) rest ih q k) m p k in
    omega (arith, now, stop-seen q (byte_kind b bs), stop-byte b bs, sum_by-cons period# b bs)
