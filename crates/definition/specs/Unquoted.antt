-- The words as the Rust finds them, where a period and `*>` count inside a literal too; and the test on a text under
-- which they are those of `Words` (`QuoteLaws`, of `theorems`, says so): no literal holds a period that would end a
-- statement, or `*>`, and none is left open.
-- Assumes nothing.
use Rattle.std.specs.Prelude.{ℕ, ◌+◌, Bool, true, false, ◌&&◌, List, [], ◌∷◌, ◌++◌}
use Rattle.definition.specs.declared.Span.{Span}
use Rattle.definition.specs.declared.ByteKind.{ByteKind}
use Rattle.definition.specs.declared.ByteKind.TheVariants.{Newline, Blank, Cut, Star, Period, Other}
use Rattle.definition.specs.declared.Mode.{Mode}
use Rattle.definition.specs.declared.Mode.TheVariants.{Fresh}
use Rattle.definition.specs.declared.LiteralState.{LiteralState}
use Rattle.definition.specs.declared.LiteralState.TheVariants.{Before, Value, Literal}
use Rattle.definition.specs.declared.Token.{Token}
use Rattle.definition.specs.Words.{byte_kind, next, completed, completed_end, said_next, sentences}

-- the tokens without literals
unfoldable pub bare_tokens : Mode → ℕ → List ℕ → List Token
bare_tokens m p [] = completed_end m p
bare_tokens m p (b ∷ bs) = let k = byte_kind b bs in completed m p k ++ bare_tokens (next m p k) (p + 1) bs

unfoldable pub bare_words : List ℕ → List (List Span)
bare_words text = sentences (bare_tokens Fresh 0 text)

-- no literal is open
abbrev pub closed : LiteralState → Bool
closed (Before n) = true
closed Value = true
closed (Literal mark at) = false

-- inside a literal: no period that ends a statement, no `*>`, and no end of a line
abbrev pub harmless : LiteralState → ByteKind → Bool
harmless (Before n) = λ _. true
harmless Value = λ _. true
harmless (Literal mark at) =
    elim [ Newline ↦ false | Blank ↦ true | Cut ↦ false | Star ↦ true | Period ↦ false | Other ↦ true ]

unfoldable pub harmless_from : List ℕ → LiteralState → Mode → ℕ → List ℕ → Bool
harmless_from text q m p [] = closed q
harmless_from text q m p (b ∷ bs) =
    let k = byte_kind b bs in harmless q k && harmless_from text (said_next text q m p b k) (next m p k) (p + 1) bs

-- the test: the copybooks for which the Rust has an answer
abbrev pub plain_text : List ℕ → Bool
plain_text text = harmless_from text (Before 0) Fresh 0 text
