-- Laws of literals: a text in which no literal holds a period that would end a statement, or `*>`, and none is left
-- open, has the words that it had without literals, and no refusal 50.
-- Assumes nothing.
use Prim.Native.Nat.{ℕ, ◌+◌}
use mathlib.Core.Path.{◌≡◌, ◌∙◌, ap}
use mathlib.Core.Bool.{true}
use mathlib.Core.List.{List, [], ◌∷◌, ◌++◌, append-nil}
use native.Mathlib.Omega.{arith}
use Rattle.std.proofs.lemmas.Bool.{and_parts}
use Rattle.std.specs.Prelude.{None}
use Rattle.definition.specs.declared.ByteKind.{ByteKind}
use Rattle.definition.specs.declared.ByteKind.TheVariants.{Newline}
use Rattle.definition.specs.declared.Mode.{Mode}
use Rattle.definition.specs.declared.Mode.TheVariants.{Fresh}
use Rattle.definition.specs.declared.LiteralState.{LiteralState}
use Rattle.definition.specs.declared.LiteralState.TheVariants.{Before}
use Rattle.definition.specs.declared.Token.{Token}
use Rattle.definition.specs.Basic.{Ok}
use Rattle.definition.specs.Words.{byte_kind, next, completed, completed_end, seen, said_next, unless_open, tokens}
use Rattle.definition.specs.Words.{tokens_of, first_open, sentences, statement_words}
use Rattle.definition.specs.Unquoted.{bare_tokens, bare_words, harmless, harmless_from, plain_text}
use Rattle.definition.specs.Calls.{literal_check}
use Rattle.definition.proofs.WordLaws.{closed_on}

-- ---------------------------------------------------------------- the same words

-- a harmless byte is what it was, and leaves nothing open
seen_same : (q : LiteralState) (k : ByteKind) → harmless q k ≡ true → seen q k ≡ k
seen_same q k h = grind arith

none_open : (q : LiteralState) (k : ByteKind) (ts : List Token) → harmless q k ≡ true → unless_open q k ts ≡ ts
none_open q k ts h = grind arith

pub same-tokens :
    (bs text : List ℕ) (q : LiteralState) (m : Mode) (p : ℕ) →
    harmless_from text q m p bs ≡ true →
    tokens text q m p bs ≡ bare_tokens m p bs
unfolding tokens bare_tokens harmless_from
same-tokens [] text q m p h = rw (closed_on q Newline [] h) (append-nil (completed_end m p))
same-tokens (b ∷ bs) text q m p h =
    let k = byte_kind b bs in
    let s = and_parts (harmless q k) (harmless_from text (said_next text q m p b k) (next m p k) (p + 1) bs) h in
    let ih = same-tokens bs text (said_next text q m p b k) (next m p k) (p + 1) s.1 in
    rw (seen_same q k s.0, none_open q k (tokens text (said_next text q m p b k) (next m p k) (p + 1) bs) s.0, ih)

-- the statements of a plain text have the words that the Rust finds
pub same-words : (text : List ℕ) → plain_text text ≡ true → statement_words text ≡ bare_words text
unfolding statement_words bare_words
same-words text h = ap sentences (same-tokens text text (Before 0) Fresh 0 h)

-- ---------------------------------------------------------------- no refusal 50

-- words and periods leave nothing open
first-completed :
    (ts : List Token) (m : Mode) (p : ℕ) (k : ByteKind) →
    first_open (completed m p k ++ ts) ≡ first_open ts
unfolding first_open
first-completed ts m p k = grind arith

first-end : (m : Mode) (p : ℕ) → first_open (completed_end m p) ≡ None
unfolding first_open
first-end m p = grind arith

bare-closed : (bs : List ℕ) (m : Mode) (p : ℕ) → first_open (bare_tokens m p bs) ≡ None
unfolding bare_tokens
bare-closed [] m p = first-end m p
bare-closed (b ∷ bs) m p =
    let k = byte_kind b bs in
    first-completed (bare_tokens (next m p k) (p + 1) bs) m p k ∙ bare-closed bs (next m p k) (p + 1)

pub plain_closed : (text : List ℕ) → plain_text text ≡ true → literal_check text ≡ Ok tt
unfolding literal_check
plain_closed text h =
    let e : first_open (tokens_of text) ≡ None =
    ap first_open (same-tokens text text (Before 0) Fresh 0 h) ∙ bare-closed text Fresh 0 in
    rw (e, literal_check)
