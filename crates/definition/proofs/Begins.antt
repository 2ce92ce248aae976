-- The kept statements of a copybook begin at rising positions, in the forest too: the first byte of a statement tells
-- it from all others.
-- Assumes nothing.
use Prim.Native.Nat.{ℕ, suc, ◌+◌, ◌≤◌}
use mathlib.Core.Path.{◌≡◌, refl, sym, ◌∙◌, subst}
use mathlib.Core.List.{List, [], ◌∷◌, ◌++◌, append_assoc, append-nil}
use Rattle.std.specs.Prelude.{Option, None, Some}
use native.Mathlib.Omega.{arith}
use lib.Dec.{leb}
use Rattle.definition.specs.declared.Span.{Span}
use Rattle.definition.specs.declared.Token.{Token}
use Rattle.definition.specs.declared.Token.TheVariants.{Word, Stop, Open}
use Rattle.definition.specs.declared.Statement.{Statement}
use Rattle.definition.specs.declared.NamedUsage.{NamedUsage}
use Rattle.definition.specs.declared.Refusal.{Refusal}
use Rattle.definition.specs.declared.TheConstants.{MOST_STATEMENTS}
use Rattle.definition.specs.Basic.{Answer, Ok, ◌>>=◌, and_then, refuse_if}
use Rattle.definition.specs.Words.{tokens_of, on_first, sentences, statement_words}
use Rattle.definition.specs.Statement.{named, statement, statements}
use Rattle.definition.specs.Tree.{Forest, leaf, item, above, not_above, forest, fields}
use Rattle.definition.specs.Usages.{inheriting, inherit, inherited}
use Rattle.definition.specs.Calls.{kept_statements, record_fields}
use Rattle.definition.proofs.Answers.{through, given-same}
use Rattle.definition.proofs.CallsLaws.{through-fields}
use Rattle.definition.proofs.OrderLaws.{Along, tokens-along}

-- ---------------------------------------------------------------- words

-- the numbers rise, from n on
abbrev pub Rises : ℕ → List ℕ → Type 0
Rises n [] = Unit {0}
Rises n (a ∷ l) = (n ≤ a) × Rises (suc a) l

pub rises-from : (n m : ℕ) (l : List ℕ) → m ≤ n → Rises n l → Rises m l
rises-from n m [] h r = tt
rises-from n m (a ∷ l) h r = (omega (arith, r.0), r.1)

-- where words start
abbrev word_starts : List Token → List ℕ
word_starts [] = []
word_starts (Stop p ∷ ts) = word_starts ts
word_starts (Word w ∷ ts) = w.start ∷ word_starts ts
word_starts (Open p ∷ ts) = []

starts-rise : (text : List ℕ) (n : ℕ) (ts : List Token) → Along text n ts → Rises n (word_starts ts)
starts-rise text n [] a = tt
starts-rise text n (Word w ∷ ts) a =
    let ih = starts-rise text (w.start + w.len) ts a.3 in
    (a.0, rises-from (w.start + w.len) (suc w.start) (word_starts ts) (omega (arith, a.1)) ih)
starts-rise text n (Stop p ∷ ts) a =
    rises-from (p + 1) n (word_starts ts) (omega (arith, a.0)) (starts-rise text (p + 1) ts a.2)
starts-rise text n (Open p ∷ ts) a = tt

-- ---------------------------------------------------------------- statements

-- where statements begin; an empty one is nowhere
abbrev begins : List (List Span) → List ℕ
begins [] = []
begins ([] ∷ wss) = begins wss
begins ((w ∷ ws) ∷ wss) = w.start ∷ begins wss

rises-on_first :
    (n : ℕ) (w : Span) (wss : List (List Span)) →
    n ≤ w.start →
    Rises (suc w.start) (begins wss) →
    Rises n (begins (on_first w wss))
rises-on_first n w [] h r = (h, tt)
rises-on_first n w ([] ∷ wss) h r = (h, r)
rises-on_first n w ((v ∷ vs) ∷ wss) h r = (h, rises-from (suc v.start) (suc w.start) (begins wss) (omega (arith, r.0)) r.1)

sentences-rise : (ts : List Token) (n : ℕ) → Rises n (word_starts ts) → Rises n (begins (sentences ts))
unfolding sentences
sentences-rise [] n r = tt
sentences-rise (Stop p ∷ ts) n r = sentences-rise ts n r
sentences-rise (Open p ∷ ts) n r = tt
sentences-rise (Word w ∷ ts) n r = rises-on_first n w (sentences ts) r.0 (sentences-rise ts (suc w.start) r.1)

words-rise : (text : List ℕ) → Rises 0 (begins (statement_words text))
unfolding statement_words
words-rise text = sentences-rise (tokens_of text) 0 (starts-rise text 0 (tokens_of text) (tokens-along text))

abbrev pub ats : List Statement → List ℕ
ats [] = []
ats (s ∷ ss) = s.at ∷ ats ss

module _ (text : List ℕ) where
  named-at : (at level : ℕ) (ws : List Span) (s : Statement) → named text at level ws ≡ Ok s → s.at ≡ at
  unfolding named and_then
  named-at at level ws s h = grind arith

  -- a kept statement begins at its first word
  statement-at :
      (ws : List Span) (s : Statement) (wss : List (List Span)) (n : ℕ) →
      statement text ws ≡ Ok (Some s) →
      Rises n (begins (ws ∷ wss)) →
      (n ≤ s.at) × Rises (suc s.at) (begins wss)
  unfolding statement and_then
  statement-at ws s wss n h r = grind (arith, named-at)

  after-empty : (n : ℕ) (ws : List Span) (wss : List (List Span)) → Rises n (begins (ws ∷ wss)) → Rises n (begins wss)
  after-empty n [] wss r = r
  after-empty n (w ∷ ws) wss r = rises-from (suc w.start) n (begins wss) (omega (arith, r.0)) r.1

  abbrev others : ℕ → List (List Span) → Option Statement → Answer (List Statement)
  others k wss o =
      elim o [
        | None ↦ statements text k wss
        | Some s ↦ do
          _ ← refuse_if (leb MOST_STATEMENTS k) (Refusal.TooManyStatements s.at)
          ss ← statements text (suc k) wss
          Ok (s ∷ ss)
      ]

  -- a statement that is skipped, and one that is kept
  kept-rise :
      (n k : ℕ) (ws : List Span) (wss : List (List Span)) →
      ((n k : ℕ) (ss : List Statement) → statements text k wss ≡ Ok ss → Rises n (begins wss) → Rises n (ats ss)) →
      (o : Option Statement) (ss : List Statement) →
      statement text ws ≡ Ok o →
      others k wss o ≡ Ok ss →
      Rises n (begins (ws ∷ wss)) →
      Rises n (ats ss)
  unfolding and_then
  kept-rise n k ws wss ih o ss e q r = grind (arith, ih, after-empty n ws wss r, statement-at ws)

  statements-rise :
      (wss : List (List Span)) (n k : ℕ) (ss : List Statement) →
      statements text k wss ≡ Ok ss →
      Rises n (begins wss) →
      Rises n (ats ss)
  unfolding statements
  statements-rise [] n k ss h r = subst (λ (l : List Statement). Rises n (ats l)) (given-same h) tt
  statements-rise (ws ∷ wss) n k ss h r =
      through _ _ h λ o e q. kept-rise n k ws wss (λ n k ss. statements-rise wss n k ss) o ss e q r

-- ---------------------------------------------------------------- the forest

-- where its statements begin, in copybook order
abbrev pub beginnings : Forest → List ℕ
beginnings leaf = []
beginnings (item s kids later) = s.at ∷ (beginnings kids ++ beginnings later)

above-begin : (n : ℕ) (f : Forest) → beginnings (above n f) ++ beginnings (not_above n f) ≡ beginnings f
unfolding above not_above
above-begin n leaf = refl
above-begin n (item s kids later) = grind (arith, append_assoc, above-begin n later)

forest-begin : (ss : List Statement) → beginnings (forest ss) ≡ ats ss
unfolding forest
forest-begin [] = refl
forest-begin (s ∷ ss) = cc (above-begin s.level (forest ss), forest-begin ss)

inherit-begin : (outer : Option NamedUsage) (f : Forest) → beginnings (inherit outer f) ≡ beginnings f
unfolding inherit
inherit-begin outer leaf = refl
inherit-begin outer (item s kids later) = cc (inherit-begin (inheriting outer s).usage kids, inherit-begin outer later)

fields-rise : (f : Forest) → Rises 0 (beginnings f) → Rises 0 (beginnings (fields f))
unfolding fields
fields-rise leaf r = tt
fields-rise (item s leaf leaf) r = r
fields-rise (item s (item t kids later) leaf) r =
    rises-from (suc s.at) 0 (beginnings (item t kids later)) (omega arith)
    (subst (Rises (suc s.at)) (append-nil (beginnings (item t kids later))) r.1)
fields-rise (item s leaf (item t kids later)) r = r
fields-rise (item s (item u us vs) (item t kids later)) r = r

-- the fields of a copybook's record begin at rising positions
pub fields-begin : (text : List ℕ) (work : ℕ) (f : Forest) → record_fields text work ≡ Ok f → Rises 0 (beginnings f)
unfolding kept_statements
fields-begin text work f h =
    through-fields text work f h λ ss kept is.
    through _ _ kept λ _ _ e.
    subst (λ (g : Forest). Rises 0 (beginnings g)) is
    (fields-rise (inherited (forest ss))
    (subst (Rises 0) (sym (inherit-begin None (forest ss) ∙ forest-begin ss))
    (statements-rise text (statement_words text) 0 0 ss e (words-rise text))))
