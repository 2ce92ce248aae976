-- Laws of words and tokens: words with the same bytes, one step of the tokens, and the statements one by one.
-- Assumes nothing.
use Prim.Native.Nat.{ℕ, ◌+◌, ◌-◌, ◌≤◌, ◌<◌}
use mathlib.Core.Path.{◌≡◌, refl, ◌∙◌, ap}
use mathlib.Core.Bool.{Bool, true, false}
use mathlib.Core.List.{List, [], ◌∷◌, ◌++◌}
use native.Mathlib.Omega.{arith}
use lib.ListN.{length, get_or, drop, drop_of_length-le}
use borrow.Author.Tests.{eq-eqb, ne_eqb}
use Rattle.std.proofs.lemmas.List.{drop_more}
use Rattle.definition.specs.declared.Span.{Span}
use Rattle.definition.specs.declared.ByteKind.{ByteKind}
use Rattle.definition.specs.declared.ByteKind.TheVariants.{Newline, Blank, Cut, Star, Period, Other}
use Rattle.definition.specs.declared.Mode.{Mode}
use Rattle.definition.specs.declared.Mode.TheVariants.{Fresh, Between, Dropped, Within}
use Rattle.definition.specs.declared.LiteralState.{LiteralState}
use Rattle.definition.specs.declared.LiteralState.TheVariants.{Literal}
use Rattle.definition.specs.declared.Token.{Token}
use Rattle.definition.specs.declared.Token.TheVariants.{Word, Stop, Open}
use Rattle.definition.specs.Basic.{white, same, span, part}
use Rattle.definition.specs.Words.{ends, byte_kind, next, up_to, completed, completed_end, seen, after_byte}
use Rattle.definition.specs.Words.{after_word, said_next, unless_open, tokens, first_open, first_words, after_stop}
use Rattle.definition.specs.Words.{on_first, sentences}
use Rattle.definition.specs.Unquoted.{closed}

pub never {ℓ} : {A : Type ℓ} → false ≡ true → A
never h = absurd (cc)

-- ---------------------------------------------------------------- two words

-- words with the same bytes are equal
pub same-equal : (a b : List ℕ) → same a b ≡ true → a ≡ b
unfolding same
same-equal [] [] h = refl
same-equal [] (y ∷ ys) h = never h
same-equal (x ∷ xs) [] h = never h
same-equal (x ∷ xs) (y ∷ ys) h = grind (arith, same-equal xs ys)

-- a word is the same as itself
pub same_self : (l : List ℕ) → same l l ≡ true
unfolding same
same_self [] = refl
same_self (x ∷ l) = grind (arith, same_self l)

-- ---------------------------------------------------------------- bytes

-- what a byte is, test by test
module _ (b : ℕ) (bs : List ℕ) where
  pub kind-newline : b ≡ 10 → byte_kind b bs ≡ Newline
  unfolding byte_kind
  kind-newline e = rw (eq-eqb b 10 e)

  module _ (n : b ≡ 10 → ⊥) where
    pub kind-blank : white b ≡ true → byte_kind b bs ≡ Blank
    unfolding byte_kind
    kind-blank w = rw (ne_eqb b 10 n, w)

-- a period that ends no statement belongs to its word, as in `ZZ9.99`
pub kind-point : (bs : List ℕ) → ends bs ≡ false → byte_kind 46 bs ≡ Other
unfolding byte_kind
kind-point bs e = rw e

pub dropped-on : (b : ℕ) (bs : List ℕ) (p : ℕ) → (b ≡ 10 → ⊥) → next Dropped p (byte_kind b bs) ≡ Dropped
unfolding byte_kind
dropped-on b bs p n = grind arith

-- ---------------------------------------------------------------- tokens

-- what the byte at i of a text is, and is to the reader
abbrev pub kind_at : List ℕ → ℕ → ByteKind
kind_at t i = byte_kind (get_or t i 0) (drop (i + 1) t)

abbrev pub seen_at : List ℕ → LiteralState → ℕ → ByteKind
seen_at t q i = seen q (kind_at t i)

-- the tokens from a place on: one byte, and the end
module _ (t : List ℕ) (q : LiteralState) (m : Mode) (i : ℕ) where
  pub tokens-next :
      i < length t →
      tokens t q m i (drop i t)
      ≡ completed m i (seen_at t q i)
      ++ unless_open q (seen_at t q i) (tokens t (said_next t q m i (get_or t i 0) (seen_at t q i)) (next m i (seen_at t q i)) (i + 1) (drop (i + 1) t))
  unfolding tokens
  tokens-next h = rw (drop_more t i 0 h)

  pub tokens-end : length t ≤ i → tokens t q m i (drop i t) ≡ completed_end m i ++ unless_open q Newline []
  unfolding tokens
  tokens-end h = rw (drop_of_length-le t h)

-- ---------------------------------------------------------------- literals

-- where no literal is open every byte is what it is, and no end of a line leaves one open
pub closed-seen : (q : LiteralState) (k : ByteKind) → closed q ≡ true → seen q k ≡ k
closed-seen q k h = grind arith

pub closed_on : (q : LiteralState) (k : ByteKind) (ts : List Token) → closed q ≡ true → unless_open q k ts ≡ ts
closed_on q k ts h = grind arith

-- a word that ends opens none and closes none
pub after_word-closed : (q : LiteralState) (bs : List ℕ) → closed q ≡ true → closed (after_word q bs) ≡ true
after_word-closed q bs h = grind arith

pub after_word-seen : (q : LiteralState) (bs : List ℕ) (k : ByteKind) → seen (after_word q bs) k ≡ seen q k
after_word-seen q bs k = grind (arith, after_word-closed, closed-seen)

pub after_word-on :
    (q : LiteralState) (bs : List ℕ) (k : ByteKind) (ts : List Token) →
    unless_open (after_word q bs) k ts ≡ unless_open q k ts
after_word-on q bs k ts = grind (arith, after_word-closed, closed_on)

-- a byte of this kind goes on with a word
abbrev pub stays_within : ByteKind → Bool
stays_within Newline = false
stays_within Blank = false
stays_within Cut = false
stays_within Star = true
stays_within Period = false
stays_within Other = true

-- and then leaves nothing open
in_on : (q : LiteralState) (k : ByteKind) (ts : List Token) → stays_within k ≡ true → unless_open q k ts ≡ ts
in_on q k ts h = grind arith

module _ (t : List ℕ) (s p b : ℕ) (more : LiteralState → Mode → List Token) where
  -- what a byte of kind k gives and leads to
  abbrev pub stepped : LiteralState → Mode → ByteKind → List Token
  stepped q m k = completed m p k ++ unless_open q k (more (said_next t q m p b k) (next m p k))

  word_on : (q : LiteralState) (k : ByteKind) → stays_within k ≡ true → stepped q (Within s) k ≡ more (after_byte q p b) (Within s)
  unfolding said_next
  word_on q k h = grind (arith, in_on)

  -- the word that ends before p, heard
  abbrev word_heard : LiteralState → LiteralState
  word_heard q = after_word q (part t (span s (p - s)))

  word-done :
      (q : LiteralState) (k : ByteKind) →
      stays_within k ≡ false →
      stepped q (Within s) k ≡ up_to s p ∷ stepped (word_heard q) Between k
  unfolding said_next
  word-done q k h = grind (arith, after_word-on)

  word-begun : (q : LiteralState) (k : ByteKind) → stays_within k ≡ true → stepped q Between k ≡ more (after_byte q p b) (Within p)
  unfolding said_next
  word-begun q k h = grind (arith, in_on)

literal-goes : (m a b : ℕ) (bs : List ℕ) → white b ≡ false → stays_within (seen (Literal m a) (byte_kind b bs)) ≡ true
unfolding byte_kind
literal-goes m a b bs w = grind arith

module _ (t : List ℕ) (m a i : ℕ) (h : i < length t) where
  pub literal-newline :
      get_or t i 0 ≡ 10 →
      tokens t (Literal m a) Between i (drop i t) ≡ Open a ∷ []
  unfolding said_next
  literal-newline e = tokens-next t (Literal m a) Between i h ∙ rw (kind-newline (get_or t i 0) (drop (i + 1) t) e)

  pub literal-blank :
      (get_or t i 0 ≡ 10 → ⊥) →
      white (get_or t i 0) ≡ true →
      tokens t (Literal m a) Between i (drop i t) ≡ tokens t (Literal m a) Between (i + 1) (drop (i + 1) t)
  unfolding said_next
  literal-blank n w = tokens-next t (Literal m a) Between i h ∙ rw (kind-blank (get_or t i 0) (drop (i + 1) t) n w)

  pub literal-word :
      white (get_or t i 0) ≡ false →
      tokens t (Literal m a) Between i (drop i t)
      ≡ tokens t (after_byte (Literal m a) i (get_or t i 0)) (Within i) (i + 1) (drop (i + 1) t)
  literal-word w =
      tokens-next t (Literal m a) Between i h
      ∙ word-begun
      t
      0
      i
      (get_or t i 0)
      (λ r d. tokens t r d (i + 1) (drop (i + 1) t))
      (Literal m a)
      (seen_at t (Literal m a) i)
      (literal-goes m a (get_or t i 0) (drop (i + 1) t) w)

-- a byte of a word, and the end of the word
module _ (t : List ℕ) (q : LiteralState) (s i : ℕ) where
  pub word_next :
      i < length t →
      stays_within (seen_at t q i) ≡ true →
      tokens t q (Within s) i (drop i t) ≡ tokens t (after_byte q i (get_or t i 0)) (Within s) (i + 1) (drop (i + 1) t)
  word_next h y =
      tokens-next t q (Within s) i h
      ∙ word_on t s i (get_or t i 0) (λ r m. tokens t r m (i + 1) (drop (i + 1) t)) q (seen_at t q i) y

  pub word-stop :
      i < length t →
      stays_within (seen_at t q i) ≡ false →
      tokens t q (Within s) i (drop i t)
      ≡ up_to s i ∷ tokens t (after_word q (part t (span s (i - s)))) Between i (drop i t)
  word-stop h n =
      tokens-next t q (Within s) i h
      ∙ word-done t s i (get_or t i 0) (λ r m. tokens t r m (i + 1) (drop (i + 1) t)) q (seen_at t q i) n
      ∙ rw (
        tokens-next t (after_word q (part t (span s (i - s)))) Between i h,
        after_word-seen q (part t (span s (i - s))) (kind_at t i),
      )

  pub word-last :
      length t ≤ i →
      tokens t q (Within s) i (drop i t)
      ≡ up_to s i ∷ tokens t (after_word q (part t (span s (i - s)))) Between i (drop i t)
  word-last h =
      rw (
        tokens-end t q (Within s) i h,
        tokens-end t (after_word q (part t (span s (i - s)))) Between i h,
        after_word-on q (part t (span s (i - s))) Newline [],
      )

-- what is dropped of a line, where no literal is open
module _ (t : List ℕ) (q : LiteralState) (c : closed q ≡ true) (i : ℕ) (h : i < length t) where
  pub dropped-newline : get_or t i 0 ≡ 10 → tokens t q Dropped i (drop i t) ≡ tokens t q Fresh (i + 1) (drop (i + 1) t)
  unfolding said_next
  dropped-newline e =
      tokens-next t q Dropped i h
      ∙ rw (closed-seen q (kind_at t i) c, kind-newline (get_or t i 0) (drop (i + 1) t) e)
      (closed_on q Newline (tokens t q Fresh (i + 1) (drop (i + 1) t)) c)

  pub dropped-next :
      (get_or t i 0 ≡ 10 → ⊥) →
      tokens t q Dropped i (drop i t) ≡ tokens t q Dropped (i + 1) (drop (i + 1) t)
  unfolding said_next
  dropped-next n =
      tokens-next t q Dropped i h
      ∙ rw (closed-seen q (kind_at t i) c, dropped-on (get_or t i 0) (drop (i + 1) t) i n)
      (closed_on q (kind_at t i) (tokens t q Dropped (i + 1) (drop (i + 1) t)) c)

-- ---------------------------------------------------------------- statements

-- the statements are the one that a word begins, or an empty one, and those after it
pub sentences-word :
    (ts : List Token) (w : Span) →
    sentences (Word w ∷ ts) ≡ (w ∷ first_words ts) ∷ sentences (after_stop ts)
unfolding sentences
sentences-word [] w = refl
sentences-word (Stop p ∷ ts) w = refl
sentences-word (Open p ∷ ts) w = refl
sentences-word (Word v ∷ ts) w = ap (on_first w) (sentences-word ts v)

pub sentences-stop : (p : ℕ) (ts : List Token) → sentences (Stop p ∷ ts) ≡ [] ∷ sentences ts
unfolding sentences
sentences-stop p ts = refl

-- what is left open is so after the first statement
pub open_after : (ts : List Token) → first_open (after_stop ts) ≡ first_open ts
unfolding first_open
open_after [] = refl
open_after (Stop p ∷ ts) = refl
open_after (Open p ∷ ts) = refl
open_after (Word v ∷ ts) = open_after ts

-- where the tokens end, with a literal that is left open or not, there is no word
pub end-words : (q : LiteralState) → first_words (unless_open q Newline []) ≡ []
end-words q = grind arith

pub end_after : (q : LiteralState) → after_stop (unless_open q Newline []) ≡ unless_open q Newline []
end_after q = grind arith

pub end-sentences : (q : LiteralState) → sentences (unless_open q Newline []) ≡ []
unfolding sentences
end-sentences q = grind arith
