-- A walk over the statements of a text: what is put of them so far and what is left, and how many bytes they take.
-- Assumes nothing.
use Prim.Native.Nat.{ℕ, ◌+◌, ◌*◌, ◌-◌, ◌≤◌}
use mathlib.Core.Path.{◌≡◌, refl, sym, ap, subst, ◌∙◌}
use mathlib.Core.List.{List, [], ◌∷◌, ◌++◌}
use native.Mathlib.Omega.{arith}
use lib.ListN.{length, length-append}
use Rattle.definition.specs.declared.Span.{Span}
use Rattle.definition.specs.declared.Token.{Token}
use Rattle.definition.specs.declared.Token.TheVariants.{Word, Stop, Open}
use Rattle.definition.specs.declared.LiteralState.{LiteralState}
use Rattle.definition.specs.declared.ByteKind.TheVariants.{Newline}
use Rattle.definition.specs.declared.TheConstants.{MOST_BYTES}
use Rattle.definition.specs.Basic.{le4}
use Rattle.definition.specs.Listing.{span_bytes}
use Rattle.definition.specs.Words.{unless_open, sentences, statement_words, periods, first_words, after_stop}
use Rattle.definition.specs.Wording.{spans_bytes, statement_bytes, statements_bytes, wording}
use Rattle.definition.proofs.WordLaws.{sentences-word, end-words}
use Rattle.definition.proofs.WordingLaws.{words_most}
use Rattle.output.specs.Puts.{Countable, Puts}
use Rattle.output.specs.declared.Sink.{Sink}
use Rattle.output.proofs.PutLaws.{◌and◌, Left, left-all, left-none, left-on, left-countable}
use Rattle.text.proofs.EndLaws.{Reached, reached-start, reached-word, ends-there}
use Rattle.text.specs.declared.tokens.Cursor.{Cursor}
use Rattle.text.specs.declared.tokens.Next.{Next}
use Rattle.text.specs.Tokens.{at_start, tokens_at, words_from, Ends, First, FirstWord, FirstStop, FirstEnd}
use Rattle.wording.specs.Extents.{first_end, end_from}

-- ---------------------------------------------------------------- the bytes, statement by statement

-- the bytes of the statements of these tokens, in a text of `long` bytes
abbrev pub bytes_of : ℕ → List Token → List ℕ
bytes_of long ts = statements_bytes long (sentences ts) (periods ts)

pub spans# : (ws : List Span) → length (spans_bytes ws) ≡ 8 * length ws
unfolding spans_bytes
spans# [] = refl
spans# (w ∷ ws) = let ih = spans# ws in omega (arith, length-append (span_bytes w) (spans_bytes ws))

module _ (long : ℕ) where
  -- a statement that goes on with the tokens, and those after it
  first-bytes :
      (ws : List Span) (ts : List Token) →
      statements_bytes long (ws ∷ sentences (after_stop ts)) (periods ts)
      ≡ statement_bytes ws (first_end long ts) ++ bytes_of long (after_stop ts)
  unfolding statements_bytes sentences periods
  first-bytes ws [] = refl
  first-bytes ws (Word w ∷ ts) = first-bytes ws ts
  first-bytes ws (Stop p ∷ ts) = refl
  first-bytes ws (Open p ∷ ts) = refl

  pub bytes-word :
      (w : Span) (ts : List Token) →
      bytes_of long (Word w ∷ ts)
      ≡ statement_bytes (w ∷ first_words ts) (first_end long ts) ++ bytes_of long (after_stop ts)
  unfolding periods
  bytes-word w ts = rw (sentences-word ts w) (first-bytes (w ∷ first_words ts) ts)

  pub bytes-stop : (p : ℕ) (ts : List Token) → bytes_of long (Stop p ∷ ts) ≡ bytes_of long ts
  unfolding statements_bytes sentences periods
  bytes-stop p ts = refl

  pub bytes-end : (q : LiteralState) → bytes_of long (unless_open q Newline []) ≡ []
  unfolding statements_bytes sentences periods
  bytes-end q = grind arith

-- ---------------------------------------------------------------- how far a statement goes

-- n words of the statement that goes on at `from` are passed, and it goes on at `cursor`
pub record Counted (t : List ℕ) (from cursor : Cursor) (n : ℕ) : Type 0 where
  pub within : cursor.at ≤ length t
  pub few : n ≤ cursor.at
  pub words : length (words_from t from) ≡ n + length (words_from t cursor)
  pub end : end_from t from ≡ end_from t cursor

pub counted-none : {t : List ℕ} {from : Cursor} → from.at ≤ length t → Counted t from from 0
counted-none h = record { within = h; few = omega arith; words = omega arith; end = refl }

-- where the tokens end, the statement ends with the text
last_end : (long : ℕ) (q : LiteralState) → first_end long (unless_open q Newline []) ≡ long
last_end long q = grind arith

module _ {t : List ℕ} {from cursor : Cursor} {n : ℕ} (c : Counted t from cursor n) {next : Cursor} where
  pub counted-word : {w : Span} → FirstWord (tokens_at t cursor) t cursor.at w next → Counted t from next (n + 1)
  counted-word {w} f =
      let e : words_from t cursor ≡ first_words (Word w ∷ tokens_at t next) = ap first_words f.all_are in
      record {
        within = f.within;
        few = omega (arith, c.few, f.up);
        words = omega (arith, c.words, ap length e);
        end = c.end ∙ ap (first_end (length t)) f.all_are;
      }

  module _ (f : FirstStop (tokens_at t cursor) t cursor.at next) where
    pub words-stop : n ≡ length (words_from t from)
    words-stop =
        let e : words_from t cursor ≡ [] = ap first_words f.all_are in
        omega (arith, c.words, ap length e)

    pub end-stop : next.at - 1 ≡ end_from t from
    end-stop = sym (c.end ∙ ap (first_end (length t)) f.all_are)

  module _ (f : FirstEnd (tokens_at t cursor) t cursor.at next) where
    pub words-end : n ≡ length (words_from t from)
    words-end =
        let e : words_from t cursor ≡ [] = ap first_words f.opens ∙ end-words next.literals in
        omega (arith, c.words, ap length e)

    pub end-end : length t ≡ end_from t from
    end-end = sym (c.end ∙ ap (first_end (length t)) f.opens ∙ last_end (length t) next.literals)

-- ---------------------------------------------------------------- its words

module _ (w : Span) (ws : List Span) (end : ℕ) where
  parts : (n : ℕ) → n ≡ length ws → statement_bytes (w ∷ ws) end ≡ le4 (n + 1) ++ le4 end ++ span_bytes w ++ spans_bytes ws
  unfolding spans_bytes
  parts n h = let e : n + 1 ≡ length (w ∷ ws) = omega arith in rw e

  pub parts-put :
      {n : ℕ} {s s' s'' s''' t : Sink} →
      n ≡ length ws →
      Puts s (le4 (n + 1)) s' → Puts s' (le4 end) s'' → Puts s'' (span_bytes w) s''' → Puts s''' (spans_bytes ws) t →
      Puts s (statement_bytes (w ∷ ws) end) t
  parts-put {n} {s} {t = t} h a b c d = subst (λ (bs : List ℕ). Puts s bs t) (sym (parts n h)) (a and b and c and d)

-- of the words of the statement that goes on at `from`, those before `cursor` were put
pub record WordsPut (t : List ℕ) (from cursor : Cursor) (s s' : Sink) : Type 0 where
  pub reached : Reached t from cursor
  pub left : Left s (spans_bytes (words_from t from)) (spans_bytes (words_from t cursor)) s'

pub no_words_put : {t : List ℕ} {from : Cursor} (s : Sink) → from.at ≤ length t → WordsPut t from from s s
no_words_put {t} {from} s h = record { reached = reached-start h; left = left-all s (spans_bytes (words_from t from)) }

module _ {t : List ℕ} {from cursor : Cursor} {s s' : Sink} (p : WordsPut t from cursor s s') where
  module _ {w : Span} {next : Cursor} (f : FirstWord (tokens_at t cursor) t cursor.at w next) where
    next-word : spans_bytes (words_from t cursor) ≡ span_bytes w ++ spans_bytes (words_from t next)
    unfolding spans_bytes
    next-word = ap (λ (ts : List Token). spans_bytes (first_words ts)) f.all_are

    pub word-room : Countable s.at (spans_bytes (words_from t from)) → Countable s'.at (span_bytes w)
    word-room c = left-countable p.left (span_bytes w) (spans_bytes (words_from t next)) next-word c

    pub word-put : {s'' : Sink} → Puts s' (span_bytes w) s'' → WordsPut t from next s s''
    word-put q = record { reached = reached-word p.reached f; left = left-on p.left next-word q }

  no-word :
      (next : Cursor) (x : Next) → First (tokens_at t cursor) t cursor.at x next → ((w : Span) → x ≡ Next.Word w → ⊥) →
      words_from t cursor ≡ []
  no-word next (Next.Word w) f h = absurd (h w refl)
  no-word next Next.Stop f h = ap first_words f.all_are
  no-word next Next.End f h = ap first_words f.opens ∙ end-words next.literals

  module _ (next : Cursor) (x : Next) (f : First (tokens_at t cursor) t cursor.at x next) (h : (w : Span) → x ≡ Next.Word w → ⊥) where
    pub words-put : Puts s (spans_bytes (words_from t from)) s'
    unfolding spans_bytes
    words-put = left-none p.left (ap spans_bytes (no-word next x f h))

    pub words-passed : Ends t from next
    words-passed = ends-there p.reached x f h

-- ---------------------------------------------------------------- the statements

-- of the bytes of a text those of the statements before `cursor` were put
pub record Going (t : List ℕ) (cursor : Cursor) (s s' : Sink) : Type 0 where
  pub within : cursor.at ≤ length t
  pub left : Left s (wording t) (bytes_of (length t) (tokens_at t cursor)) s'

pub going-start : (t : List ℕ) (s : Sink) → Going t at_start s s
unfolding statement_words
going-start t s = record { within = omega arith; left = left-all s (wording t) }

module _ {t : List ℕ} {cursor : Cursor} {s s' : Sink} (g : Going t cursor s s') {next : Cursor} where
  module _ {w : Span} (f : FirstWord (tokens_at t cursor) t cursor.at w next) where
    next-statement :
        bytes_of (length t) (tokens_at t cursor)
        ≡ statement_bytes (w ∷ words_from t next) (end_from t next) ++ bytes_of (length t) (after_stop (tokens_at t next))
    next-statement = ap (bytes_of (length t)) f.all_are ∙ bytes-word (length t) w (tokens_at t next)

    pub going-room :
        s.at ≡ 0 → length t ≤ MOST_BYTES → Countable s'.at (statement_bytes (w ∷ words_from t next) (end_from t next))
    going-room z h =
        left-countable g.left (statement_bytes (w ∷ words_from t next) (end_from t next))
        (bytes_of (length t) (after_stop (tokens_at t next))) next-statement
        (omega (arith, z, h, words_most t))

    pub going_on :
        {behind : Cursor} {s'' : Sink} →
        Ends t next behind →
        Puts s' (statement_bytes (w ∷ words_from t next) (end_from t next)) s'' →
        Going t behind s s''
    going_on e p =
        record {
          within = e.within;
          left = left-on g.left
              (next-statement
              ∙ ap (λ (ts : List Token). statement_bytes (w ∷ words_from t next) (end_from t next) ++ bytes_of (length t) ts) e.rest)
              p;
        }

  pub going-past : FirstStop (tokens_at t cursor) t cursor.at next → Going t next s s'
  going-past f =
      let e = ap (bytes_of (length t)) f.all_are ∙ bytes-stop (length t) (next.at - 1) (tokens_at t next) in
      record { within = f.within; left = subst (λ (bs : List ℕ). Left s (wording t) bs s') e g.left }

  pub going-end : FirstEnd (tokens_at t cursor) t cursor.at next → Puts s (wording t) s'
  going-end f = left-none g.left (ap (bytes_of (length t)) f.opens ∙ bytes-end (length t) next.literals)
