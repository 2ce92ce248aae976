-- Laws of cards. The view has as many bytes as the card text, and a byte of it that is not white is the card text's own
-- at that position; so a word of the view has the same bytes in the card text. A card text that passes the checks has a
-- view that passes them.
-- Assumes nothing.
use Prim.Native.Nat.{ℕ, zero, suc, ◌+◌, ◌≤◌, ◌<◌}
use mathlib.Core.Path.{◌≡◌, refl, ap, subst}
use mathlib.Core.Bool.{Bool, false}
use mathlib.Core.List.{List, [], ◌∷◌}
use Rattle.std.specs.Prelude.{None}
use native.Mathlib.Omega.{arith}
use lib.ListN.{length, get_or, drop, length-drop}
use lib.Seq.{get_or-drop}
use Rattle.std.proofs.lemmas.List.{take_more}
use Rattle.definition.specs.declared.Span.{Span}
use Rattle.definition.specs.declared.Token.{Token}
use Rattle.definition.specs.declared.Token.TheVariants.{Word, Stop, Open}
use Rattle.definition.specs.Basic.{white, span, part, Ok, and_then}
use Rattle.definition.specs.Words.{tokens_of, on_first, sentences, statement_words}
use Rattle.definition.specs.Cards.{column_next, code_next, view_from, view}
use Rattle.definition.specs.declared.Form.{Form}
use Rattle.definition.specs.Cards.{view_in}
use Rattle.definition.specs.Calls.{first_wide, text_checks, entry_checks}
use Rattle.definition.proofs.SpanLaws.{Sentences}
use Rattle.definition.proofs.OrderLaws.{Along, along-low, tokens-along}

-- ---------------------------------------------------------------- the view, byte by byte

view-from-length : (bs : List ℕ) (n : ℕ) (code : Bool) → length (view_from n code bs) ≡ length bs
unfolding view_from
view-from-length [] n code = refl
view-from-length (b ∷ bs) n code = ap suc (view-from-length bs (column_next n b) (code_next n code b))

-- the view is as long as the card text
pub view-length : (cards : List ℕ) → length (view cards) ≡ length cards
view-length cards = view-from-length cards 1 false

view-from-byte :
    (bs : List ℕ) (n : ℕ) (code : Bool) (i : ℕ) →
    white (get_or (view_from n code bs) i 0) ≡ false →
    get_or (view_from n code bs) i 0 ≡ get_or bs i 0
unfolding view_from
view-from-byte [] n code i h = refl
view-from-byte (b ∷ bs) n code zero h = grind arith
view-from-byte (b ∷ bs) n code (suc i) h = view-from-byte bs (column_next n b) (code_next n code b) i h

-- what is not white in it stands so in the card text
pub view-byte :
    (cards : List ℕ) (i : ℕ) →
    white (get_or (view cards) i 0) ≡ false →
    get_or (view cards) i 0 ≡ get_or cards i 0
view-byte cards i h = view-from-byte cards 1 false i h

-- ---------------------------------------------------------------- words

-- two texts of one length, the second with the bytes of the first that are not white
module _
    (v t : List ℕ)
    (long : length v ≡ length t)
    (agree : (i : ℕ) → white (get_or v i 0) ≡ false → get_or v i 0 ≡ get_or t i 0)
  where
    abbrev pub SameIn : Span → Type 0
    SameIn w = part v w ≡ part t w

    abbrev AllSame : List Token → Type 0
    AllSame [] = Unit {0}
    AllSame (Word w ∷ ts) = SameIn w × AllSame ts
    AllSame (Stop p ∷ ts) = AllSame ts
    AllSame (Open p ∷ ts) = Unit {0}

    one_more : (s n : ℕ) → s + n < length v → white (get_or v (s + n) 0) ≡ false → SameIn (span s n) → SameIn (span s (n + 1))
    one_more s n h w e =
        rw (
          take_more (drop s v) n 0 (omega (arith, length-drop s v)),
          take_more (drop s t) n 0 (omega (arith, length-drop s t)),
          get_or-drop s v n 0,
          get_or-drop s t n 0,
          e,
          agree (s + n) w,
        )

    -- bytes that are not white
    same-bytes :
        (s n : ℕ) → s + n ≤ length v → ((i : ℕ) → s ≤ i → i < s + n → white (get_or v i 0) ≡ false) → SameIn (span s n)
    same-bytes s zero h black = refl
    same-bytes s (suc n) h black =
        let e : n + 1 ≡ suc n = omega arith in
        let ih = same-bytes s n (omega arith) (λ i up on. black i up (omega arith)) in
        subst (λ (m : ℕ). SameIn (span s m)) e (one_more s n (omega arith) (black (s + n) (omega arith) (omega arith)) ih)

    -- every word of the first text has the same bytes in the second
    all-same : (n : ℕ) (ts : List Token) → Along v n ts → AllSame ts
    all-same n [] a = tt
    all-same n (Word w ∷ ts) a =
        (same-bytes w.start w.len (along-low v (w.start + w.len) ts a.3) a.2, all-same (w.start + w.len) ts a.3)
    all-same n (Stop p ∷ ts) a = all-same (p + 1) ts a.2
    all-same n (Open p ∷ ts) a = tt

    -- and so has every word of its statements
    abbrev StatementsSame : List (List Span) → Type 0
    StatementsSame = Sentences SameIn

    first-same : (w : Span) (wss : List (List Span)) → SameIn w → StatementsSame wss → StatementsSame (on_first w wss)
    first-same w wss e a = grind arith

    sentences-same : (ts : List Token) → AllSame ts → StatementsSame (sentences ts)
    unfolding sentences
    sentences-same [] a = tt
    sentences-same (Stop p ∷ ts) a = (tt, sentences-same ts a)
    sentences-same (Word w ∷ ts) a = first-same w (sentences ts) a.0 (sentences-same ts a.1)
    sentences-same (Open p ∷ ts) a = tt

    pub words_same : Sentences SameIn (statement_words v)
    unfolding statement_words
    words_same = sentences-same (tokens_of v) (all-same 0 (tokens_of v) (tokens-along v))

-- every word that the reader sees has the same bytes in the copybook's text
pub view-words :
    (form : Form) (text : List ℕ) →
    Sentences (λ w. part (view_in form text) w ≡ part text w) (statement_words (view_in form text))
view-words Form.FreeText text = words_same text text refl (λ i h. refl)
view-words Form.Cards text = words_same (view text) text (view-length text) (view-byte text)

-- ---------------------------------------------------------------- the checks of the view

view-narrow :
    (bs : List ℕ) (n : ℕ) (code : Bool) (p : ℕ) →
    first_wide p bs ≡ None →
    first_wide p (view_from n code bs) ≡ None
unfolding first_wide view_from
view-narrow [] n code p h = refl
view-narrow (b ∷ bs) n code p h = grind (arith, view-narrow bs (column_next n b) (code_next n code b) (p + 1))

-- the free call on the view looks again for 1, 2 and 3, and finds none
pub view-checks :
    (cards :
    List ℕ) (work : ℕ) {x : Unit {0}} → entry_checks cards work ≡ Ok x → entry_checks (view cards) work ≡ Ok tt
unfolding entry_checks text_checks and_then
view-checks cards work h = grind (arith, view-length cards, view-narrow cards 1 false 0)
