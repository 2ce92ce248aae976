-- The tokens of a text stand in it one after the other: words without white space, and periods.
-- Assumes nothing.
use Prim.Native.Nat.{ℕ, zero, suc, ◌+◌, ◌-◌, ◌≤◌, ◌<◌}
use mathlib.Core.Path.{◌≡◌}
use mathlib.Core.Bool.{true, false}
use mathlib.Core.List.{List, [], ◌∷◌, ◌++◌}
use mathlib.Core.Logic.{⊎_elim}
use native.Mathlib.Omega.{arith}
use lib.ListN.{length, get_or, drop}
use Rattle.std.proofs.lemmas.Bool.Decides.{nat_tests}
use Rattle.definition.specs.declared.Span.{Span}
use Rattle.definition.specs.declared.ByteKind.{ByteKind}
use Rattle.definition.specs.declared.ByteKind.TheVariants.{Newline, Period}
use Rattle.definition.specs.declared.Mode.{Mode}
use Rattle.definition.specs.declared.Mode.TheVariants.{Fresh, Between, Dropped, Within}
use Rattle.definition.specs.declared.LiteralState.{LiteralState}
use Rattle.definition.specs.declared.LiteralState.TheVariants.{Before}
use Rattle.definition.specs.declared.Token.{Token}
use Rattle.definition.specs.declared.Token.TheVariants.{Word, Stop, Open}
use Rattle.definition.specs.Basic.{white, span}
use Rattle.definition.specs.Words.{byte_kind, next, completed, completed_end, seen, said_next, unless_open, tokens, tokens_of}
use Rattle.definition.proofs.Lists.{order}
use Rattle.definition.proofs.WordLaws.{seen_at, stays_within, tokens-next, tokens-end}

-- a byte that goes on with a word is not white
pub not_white : (b : ℕ) (bs : List ℕ) (q : LiteralState) → stays_within (seen q (byte_kind b bs)) ≡ true → white b ≡ false
unfolding byte_kind
not_white b bs q h = grind arith

a-period : (b : ℕ) (bs : List ℕ) (q : LiteralState) → seen q (byte_kind b bs) ≡ Period → b ≡ 46
unfolding byte_kind
a-period b bs q h = grind (arith, nat_tests)

module _ (t : List ℕ) where
  -- no byte of a word is white
  abbrev pub Black : Span → Type 0
  Black w = (i : ℕ) → w.start ≤ i → i < w.start + w.len → white (get_or t i 0) ≡ false

  -- these tokens stand one after the other, from place n on
  abbrev pub Along : ℕ → List Token → Type 0
  Along n [] = n ≤ length t
  Along n (Word w ∷ ts) = (n ≤ w.start) × (0 < w.len) × Black w × Along (w.start + w.len) ts
  Along n (Stop p ∷ ts) = (n ≤ p) × (get_or t p 0 ≡ 46) × Along (p + 1) ts
  Along n (Open p ∷ ts) = n ≤ length t

  along-from : (n m : ℕ) (ts : List Token) → m ≤ n → Along n ts → Along m ts
  along-from n m [] l a = omega arith
  along-from n m (Word w ∷ ts) l a = (omega (arith, a.0), a.1, a.2, a.3)
  along-from n m (Stop p ∷ ts) l a = (omega (arith, a.0), a.1, a.2)
  along-from n m (Open p ∷ ts) l a = omega arith

  pub along-low : (n : ℕ) (ts : List Token) → Along n ts → n ≤ length t
  along-low n [] a = a
  along-low n (Word w ∷ ts) a = omega (arith, a.0, along-low (w.start + w.len) ts a.3)
  along-low n (Stop p ∷ ts) a = omega (arith, a.0, along-low (p + 1) ts a.2)
  along-low n (Open p ∷ ts) a = a

  -- from where on the tokens of the rest stand
  abbrev low : Mode → ℕ → ℕ
  low Fresh p = p
  low Between p = p
  low Dropped p = p
  low (Within s) p = s

  -- a word that goes on at p has no white byte so far
  abbrev SoFar : ℕ → Mode → Type 0
  SoFar p Fresh = Unit {0}
  SoFar p Between = Unit {0}
  SoFar p Dropped = Unit {0}
  SoFar p (Within s) = (s < p) × Black (span s (p - s))

  one_more : (s p : ℕ) → s ≤ p → white (get_or t p 0) ≡ false → Black (span s (p - s)) → Black (span s (p + 1 - s))
  one_more s p l w h i up on =
      ⊎_elim
      (λ (b : i < p). h i up (omega arith))
      (λ (b : p ≤ i). let e : i ≡ p = omega arith in rw e w)
      (order i p)

  begun : (p : ℕ) → white (get_or t p 0) ≡ false → SoFar (p + 1) (Within p)
  begun p w = (omega arith, one_more p p (omega arith) w (λ i up on. absurd (omega arith)))

  so_far :
      (m : Mode) (k : ByteKind) (p : ℕ) → (stays_within k ≡ true → white (get_or t p 0) ≡ false) →
      SoFar p m →
      SoFar (p + 1) (next m p k)
  so_far m k p w x = grind (arith, begun, one_more)

  completed-along :
      (m : Mode) (k : ByteKind) (p : ℕ) (ts : List Token) →
      (k ≡ Period → get_or t p 0 ≡ 46) →
      SoFar p m →
      Along (low (next m p k) (p + 1)) ts →
      Along (low m p) (completed m p k ++ ts)
  completed-along m k p ts e x a =
      grind (arith, along-from (p + 1) p ts, along-from (p + 1) (low m p + (p - low m p)) ts)

  open-along : (q : LiteralState) (k : ByteKind) (n : ℕ) (ts : List Token) → Along n ts → Along n (unless_open q k ts)
  open-along q k n ts a = let l = along-low n ts a in grind arith

  end-along :
      (m : Mode) (q : LiteralState) (p : ℕ) → p ≡ length t →
      SoFar p m →
      Along (low m p) (completed_end m p ++ unless_open q Newline [])
  end-along m q p l x = grind (arith, open-along q Newline p [] (omega arith), along-from p (low m p + (p - low m p)) (unless_open q Newline []))

  along :
      (n : ℕ) (q : LiteralState) (m : Mode) (p : ℕ) → p + n ≡ length t → SoFar p m → Along (low m p) (tokens t q m p (drop p t))
  along zero q m p l x = rw (tokens-end t q m p (omega arith)) (end-along m q p (omega arith) x)
  along (suc n) q m p l x =
      let b = get_or t p 0 in
      let k = seen_at t q p in
      let s = said_next t q m p b k in
      let rest = along n s (next m p k) (p + 1) (omega arith) (so_far m k p (not_white b (drop (p + 1) t) q) x) in
      rw (tokens-next t q m p (omega arith))
      (completed-along m k p _ (a-period b (drop (p + 1) t) q) x (open-along q k _ _ rest))

  pub tokens-along : Along 0 (tokens_of t)
  tokens-along = along (length t) (Before 0) Fresh 0 (omega arith) tt
