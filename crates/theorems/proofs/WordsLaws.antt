-- Each word that the reader sees stands so in the copybook's own text, and the statements are read one by one.
-- Assumes nothing.
use Prim.Native.Nat.{ℕ, ◌+◌, ◌≤◌}
use mathlib.Core.Path.{◌≡◌, refl}
use mathlib.Core.List.{List, [], ◌∷◌}
use lib.ListN.{length}
use Rattle.definition.specs.declared.Span.{Span}
use Rattle.definition.specs.declared.Token.{Token}
use Rattle.definition.specs.declared.Token.TheVariants.{Word, Stop, Open}
use Rattle.definition.specs.Basic.{part}
use Rattle.definition.specs.Words.{on_first, tokens_of, sentences, periods, statement_words}
use Rattle.definition.specs.Cards.{view_in}
use Rattle.definition.specs.declared.Form.{Form}
use Rattle.definition.proofs.SpanLaws.{Words, Sentences}
use Rattle.definition.proofs.OrderLaws.{Along, along-low, tokens-along}
use Rattle.definition.proofs.CardLaws.{view-words}
use Rattle.definition.proofs.WordLaws.{sentences-word, sentences-stop, open_after}
use Rattle.theorems.specs.Sentences.{OfWords, OfStatements, Unbroken, StatementsInOrder, OneByOne}

module _ (P : Span → Type 0) where
  of-words : (ws : List Span) → Words P ws → OfWords P ws
  of-words [] h = tt
  of-words (w ∷ ws) h = (h.0, of-words ws h.1)

  of-statements : (wss : List (List Span)) → Sentences P wss → OfStatements P wss
  of-statements [] h = tt
  of-statements (ws ∷ wss) h = (of-words ws h.0, of-statements wss h.1)

pub words_stand :
    (form : Form) (text : List ℕ) →
    OfStatements (λ w. part (view_in form text) w ≡ part text w) (statement_words (view_in form text))
words_stand form text =
    of-statements (λ w. part (view_in form text) w ≡ part text w) (statement_words (view_in form text)) (view-words form text)

module _ (t : List ℕ) where
  first-in-order :
      (n : ℕ) (w : Span) (wss : List (List Span)) (ps : List ℕ) →
      n ≤ w.start →
      Unbroken t w →
      w.start + w.len ≤ length t →
      StatementsInOrder t (w.start + w.len) wss ps →
      StatementsInOrder t n (on_first w wss) ps
  first-in-order n w [] [] l u e h = ((l, u, e), refl)
  first-in-order n w [] (p ∷ ps) l u e h = absurd h
  first-in-order n w (ws ∷ wss) [] l u e h = ((l, u, h.0), h.1)
  first-in-order n w (ws ∷ wss) (p ∷ ps) l u e h = ((l, u, h.0), h.1, h.2)

  sentences-in-order : (n : ℕ) (ts : List Token) → Along t n ts → StatementsInOrder t n (sentences ts) (periods ts)
  unfolding sentences periods
  sentences-in-order n [] a = a
  sentences-in-order n (Word w ∷ ts) a =
      first-in-order n w (sentences ts) (periods ts) a.0 (record { nonempty = a.1; black = a.2 })
      (along-low t (w.start + w.len) ts a.3)
      (sentences-in-order (w.start + w.len) ts a.3)
  sentences-in-order n (Stop p ∷ ts) a = (a.0, a.1, sentences-in-order (p + 1) ts a.2)
  sentences-in-order n (Open p ∷ ts) a = a

  pub words_in_order : StatementsInOrder t 0 (statement_words t) (periods (tokens_of t))
  unfolding statement_words
  words_in_order = sentences-in-order 0 (tokens_of t) (tokens-along t)

pub one_by_one : (ts : List Token) → OneByOne ts
one_by_one ts = record { word = sentences-word ts; stop = λ p. sentences-stop p ts; left-open = open_after ts }
