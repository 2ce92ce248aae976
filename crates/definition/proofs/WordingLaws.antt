-- How many bytes the words of a text take: a word and a period have 8 each, and stand in at least a byte of the text.
-- Assumes nothing.
use Prim.Native.Nat.{ℕ, ◌+◌, ◌*◌, ◌≤◌}
use mathlib.Core.Path.{◌≡◌, refl}
use mathlib.Core.List.{List, [], ◌∷◌}
use native.Mathlib.Omega.{arith}
use lib.ListN.{length, length-append}
use Rattle.definition.specs.declared.Span.{Span}
use Rattle.definition.specs.declared.Token.{Token}
use Rattle.definition.specs.declared.Token.TheVariants.{Word, Stop, Open}
use Rattle.definition.specs.Words.{tokens_of, on_first, sentences, statement_words, periods}
use Rattle.definition.specs.Wording.{spans_bytes, statement_bytes, statements_bytes, wording}
use Rattle.definition.proofs.OrderLaws.{Along, tokens-along}

-- what a first statement that has no word so far will have besides its words
abbrev head# : List (List Span) → ℕ
head# [] = 8
head# ([] ∷ wss) = 8
head# ((w ∷ ws) ∷ wss) = 0

module _ (end : ℕ) where
  on-first# :
      (w : Span) (wss : List (List Span)) (ps : List ℕ) →
      length (statements_bytes end (on_first w wss) ps) ≡ 8 + head# wss + length (statements_bytes end wss ps)
  unfolding statements_bytes spans_bytes
  on-first# w [] [] = refl
  on-first# w [] (p ∷ ps) = refl
  on-first# w ([] ∷ wss) [] = omega arith
  on-first# w ([] ∷ wss) (p ∷ ps) = omega arith
  on-first# w ((v ∷ vs) ∷ wss) [] =
      omega (
        arith,
        length-append (statement_bytes (w ∷ v ∷ vs) end) (statements_bytes end wss []),
        length-append (statement_bytes (v ∷ vs) end) (statements_bytes end wss []),
      )
  on-first# w ((v ∷ vs) ∷ wss) (p ∷ ps) =
      omega (
        arith,
        length-append (statement_bytes (w ∷ v ∷ vs) p) (statements_bytes end wss ps),
        length-append (statement_bytes (v ∷ vs) p) (statements_bytes end wss ps),
      )

  has-word : (w : Span) (wss : List (List Span)) → head# (on_first w wss) ≡ 0
  has-word w [] = refl
  has-word w (ws ∷ wss) = refl

  tokens# :
      (text : List ℕ) (n : ℕ) (ts : List Token) →
      Along text n ts →
      length (statements_bytes end (sentences ts) (periods ts)) + head# (sentences ts) + 8 * n ≤ 8 * length text + 8
  unfolding statements_bytes sentences periods
  tokens# text n [] a = omega (arith, a)
  tokens# text n (Word w ∷ ts) a =
      omega (
        arith,
        a.0,
        a.1,
        on-first# w (sentences ts) (periods ts),
        has-word w (sentences ts),
        tokens# text (w.start + w.len) ts a.3,
      )
  tokens# text n (Stop p ∷ ts) a = omega (arith, a.0, tokens# text (p + 1) ts a.2)
  tokens# text n (Open p ∷ ts) a = omega (arith, a)

pub words_most : (text : List ℕ) → length (wording text) ≤ 8 * length text + 8
unfolding statement_words
words_most text = omega (arith, tokens# (length text) text 0 (tokens_of text) (tokens-along text))
