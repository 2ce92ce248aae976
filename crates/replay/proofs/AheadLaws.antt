-- A list is read token by token, each anew: the first that a reader finds is the first of the tokens without literals,
-- and the others of these follow from its end on.
-- Assumes nothing.
use Prim.Native.Nat.{ℕ, zero, suc, ◌+◌, ◌-◌, ◌≤◌, ◌<◌}
use mathlib.Core.Path.{◌≡◌, refl, sym, ap, ◌∙◌}
use mathlib.Core.Logic.{◌⊎◌, ⊎_elim}
use mathlib.Core.Bool.{Bool, true, false}
use mathlib.Core.List.{List, [], ◌∷◌, ◌++◌}
use native.Mathlib.Omega.{arith}
use lib.Dec.{eqb}
use lib.ListN.{length, get_or, drop, drop_of_length-le}
use borrow.Author.Tests.{ne_eqb}
use Rattle.std.proofs.lemmas.List.{drop_more}
use Rattle.definition.specs.declared.ByteKind.{ByteKind}
use Rattle.definition.specs.declared.ByteKind.TheVariants.{Newline, Blank, Cut, Star, Period, Other}
use Rattle.definition.specs.declared.Mode.{Mode}
use Rattle.definition.specs.declared.Mode.TheVariants.{Fresh, Between, Dropped, Within}
use Rattle.definition.specs.declared.LiteralState.{LiteralState}
use Rattle.definition.specs.declared.LiteralState.TheVariants.{Before, Value, Literal}
use Rattle.definition.specs.declared.Token.{Token}
use Rattle.definition.specs.declared.Token.TheVariants.{Word, Stop, Open}
use Rattle.definition.specs.Basic.{span}
use Rattle.definition.specs.Words.{next, up_to, completed, completed_end, said_next, unless_open, tokens}
use Rattle.definition.specs.Unquoted.{bare_tokens}
use Rattle.definition.proofs.Lists.{tested}
use Rattle.definition.proofs.WordLaws.{kind_at, tokens-next, tokens-end}
use Rattle.text.specs.declared.tokens.Ahead.{Ahead}
use Rattle.text.specs.declared.tokens.Cursor.{Cursor}
use Rattle.text.specs.Tokens.{between, behind, tokens_at, First, FirstWord, FirstStop, token_of}
use Rattle.replay.specs.Bare.{bare_ahead, PassedWord, PassedStop, Passed}

-- the tokens without literals, from a place on
abbrev bare : List ℕ → Mode → ℕ → List Token
bare t m p = bare_tokens m p (drop p t)

-- the first of some tokens, and those without literals from its end on
abbrev onto : List ℕ → List Token → List Token
onto t [] = []
onto t (Word w ∷ ts) = Word w ∷ bare t Between (w.start + w.len)
onto t (Stop s ∷ ts) = Stop s ∷ bare t Between (s + 1)
onto t (Open s ∷ ts) = []

module _ (t : List ℕ) (m : Mode) (p : ℕ) where
  bare-next : p < length t → bare t m p ≡ completed m p (kind_at t p) ++ bare t (next m p (kind_at t p)) (p + 1)
  unfolding bare_tokens
  bare-next h = rw (drop_more t p 0 h)

  bare-end : length t ≤ p → bare t m p ≡ completed_end m p
  unfolding bare_tokens
  bare-end h = rw (drop_of_length-le t h)

-- a word began at a place that was passed
abbrev Fits : Mode → ℕ → Type 0
Fits Fresh p = Unit {0}
Fits Between p = Unit {0}
Fits Dropped p = Unit {0}
Fits (Within s) p = s ≤ p

-- one byte of kind k, where it holds from the next place on
module _ (t : List ℕ) (p b : ℕ) (ih : (m : Mode) → Fits m (p + 1) → bare t m (p + 1) ≡ onto t (tokens t (Before 0) m (p + 1) (drop (p + 1) t))) where
  abbrev Step : Mode → ByteKind → Type 0
  Step m k =
      completed m p k ++ bare t (next m p k) (p + 1)
      ≡ onto t (completed m p k ++ tokens t (said_next t (Before 0) m p b k) (next m p k) (p + 1) (drop (p + 1) t))

  step-fresh : (k : ByteKind) → Step Fresh k
  unfolding said_next
  step-fresh Newline = ih Fresh tt
  step-fresh Blank = ih Fresh tt
  step-fresh Cut = ih Dropped tt
  step-fresh Star = ih Dropped tt
  step-fresh Period = refl
  step-fresh Other = ih (Within p) (omega arith)

  step-between : (k : ByteKind) → Step Between k
  unfolding said_next
  step-between Newline = ih Fresh tt
  step-between Blank = ih Between tt
  step-between Cut = ih Dropped tt
  step-between Star = ih (Within p) (omega arith)
  step-between Period = refl
  step-between Other = ih (Within p) (omega arith)

  step-dropped : (k : ByteKind) → Step Dropped k
  unfolding said_next
  step-dropped Newline = ih Fresh tt
  step-dropped Blank = ih Dropped tt
  step-dropped Cut = ih Dropped tt
  step-dropped Star = ih Dropped tt
  step-dropped Period = ih Dropped tt
  step-dropped Other = ih Dropped tt

  -- the end of a word is a byte between words too
  step-within :
      (s : ℕ) (k : ByteKind) →
      s ≤ p →
      s + (p - s) ≡ p →
      bare t Between p ≡ completed Between p k ++ bare t (next Between p k) (p + 1) →
      Step (Within s) k
  unfolding said_next
  step-within s Newline h e n = rw (e, n)
  step-within s Blank h e n = rw (e, n)
  step-within s Cut h e n = rw (e, n)
  step-within s Star h e n = ih (Within s) (omega arith)
  step-within s Period h e n = rw (e, n)
  step-within s Other h e n = ih (Within s) (omega arith)

  step : (m : Mode) → Fits m p → p < length t → Step m (kind_at t p)
  step Fresh f h = step-fresh (kind_at t p)
  step Between f h = step-between (kind_at t p)
  step Dropped f h = step-dropped (kind_at t p)
  step (Within s) f h = step-within s (kind_at t p) f (omega arith) (bare-next t Between p h)

-- the same of a text that ends there
module _ (t : List ℕ) (p : ℕ) where
  last : (m : Mode) → Fits m p → length t ≤ p → bare t m p ≡ onto t (completed_end m p ++ [])
  last Fresh f h = bare-end t Fresh p h
  last Between f h = bare-end t Between p h
  last Dropped f h = bare-end t Dropped p h
  last (Within s) f h =
      let e : s + (p - s) ≡ p = omega arith in rw (e, bare-end t Between p h, bare-end t (Within s) p h)

-- the first token is the same, where at most n bytes are left
first-same :
    (n : ℕ) (t : List ℕ) (m : Mode) (p : ℕ) →
    Fits m p →
    length t ≤ p + n →
    bare t m p ≡ onto t (tokens t (Before 0) m p (drop p t))
first-same zero t m p f h = last t p m f (omega arith) ∙ ap (onto t) (sym (tokens-end t (Before 0) m p (omega arith)))
first-same (suc n) t m p f h =
    let ih = λ (d : Mode) (g : Fits d (p + 1)). first-same n t d (p + 1) g (omega arith) in
    tested p (length t)
    (λ e lt. bare-next t m p lt ∙ step t p (get_or t p 0) ih m f lt ∙ ap (onto t) (sym (tokens-next t (Before 0) m p lt)))
    (λ e ge. last t p m f ge ∙ ap (onto t) (sym (tokens-end t (Before 0) m p ge)))

fits-between : (b : Bool) (p : ℕ) → Fits (between b) p
fits-between true p = tt
fits-between false p = tt

-- what a reader finds first, and what is ahead from its end on
ahead_first : (t : List ℕ) (at : ℕ) → bare_ahead t at ≡ onto t (tokens_at t (behind at))
unfolding bare_ahead
ahead_first t at = first-same (length t) t (between (eqb at 0)) at (fits-between (eqb at 0) at) (omega arith)

ahead_on : (t : List ℕ) (at next : ℕ) → at < next → bare t Between next ≡ bare_ahead t next
unfolding bare_ahead
ahead_on t at next h = rw (ne_eqb next 0 (λ e. omega arith))

none-left : (t : List ℕ) (q : LiteralState) → onto t (unless_open q Newline []) ≡ []
none-left t (Before n) = refl
none-left t Value = refl
none-left t (Literal mark at) = refl

module _ (t : List ℕ) (at : ℕ) (n : Cursor) where
  pass_word : (i : ℕ) → FirstWord (tokens_at t (behind at)) t at (span i (n.at - i)) n → PassedWord t at i n.at
  pass_word i f =
      let e : i + (n.at - i) ≡ n.at = omega (arith, f.nonempty) in
      record {
        all_are =
            ahead_first t at ∙ ap (onto t) f.all_are
            ∙ rw e (ap (λ ts. up_to i n.at ∷ ts) (ahead_on t at n.at f.up));
        up = f.begins;
        nonempty = omega (arith, f.nonempty);
        within = f.within;
      }

  pass_stop : FirstStop (tokens_at t (behind at)) t at n → PassedStop t at n.at
  pass_stop f =
      let e : n.at - 1 + 1 ≡ n.at = omega (arith, f.up) in
      record {
        all_are =
            ahead_first t at ∙ ap (onto t) f.all_are
            ∙ rw e (ap (λ ts. Stop (n.at - 1) ∷ ts) (ahead_on t at n.at f.up));
        up = f.up;
        within = f.within;
      }

  -- a token was passed,
  pub passed :
      (a : Ahead) →
      ((i : ℕ) × (a ≡ Ahead.Word i)) ⊎ ((p : ℕ) × (a ≡ Ahead.Stop p)) →
      First (tokens_at t (behind at)) t at (token_of a n) n →
      Passed t at a n.at
  passed (Ahead.Word i) m f = pass_word i f
  passed (Ahead.Stop p) m f = pass_stop f
  passed (Ahead.End p) m f = ⊎_elim (λ x. absurd (cc)) (λ x. absurd (cc)) m

  -- or there is none
  pub none-passed :
      (a : Ahead) →
      (p : ℕ) →
      a ≡ Ahead.End p →
      First (tokens_at t (behind at)) t at (token_of a n) n →
      Passed t at a at
  none-passed (Ahead.Word i) p e f = absurd (cc)
  none-passed (Ahead.Stop i) p e f = absurd (cc)
  none-passed (Ahead.End i) p e f =
      record { none = ahead_first t at ∙ ap (onto t) f.opens ∙ none-left t n.literals; stays = refl }
