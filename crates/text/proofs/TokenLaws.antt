-- What a byte is by the bytes after it, where a reader stands, and what the end of the tokens says of refusal 50.
-- Assumes nothing.
use Prim.Native.Nat.{ℕ, ◌+◌, ◌<◌}
use native.Mathlib.Omega.{arith}
use mathlib.Core.Path.{◌≡◌, refl}
use mathlib.Core.Bool.{Bool, true, false, ◌&&◌, not}
use mathlib.Core.List.{List, [], ◌∷◌}
use Rattle.std.specs.Prelude.{if◌then◌else◌}
use Rattle.std.proofs.lemmas.Bool.Decides.{nat_tests}
use lib.Dec.{eqb}
use lib.ListN.{length, get_or, drop}
use Rattle.std.proofs.Common.{add-one, drop-cons, ◌≤◌}
use Rattle.std.proofs.lemmas.List.{drop_all}
use borrow.Author.Tests.{eqb-true}
use Rattle.definition.specs.declared.ByteKind.TheVariants.{Newline, Blank, Cut, Star, Period, Other}
use Rattle.definition.specs.declared.LiteralState.{LiteralState}
use Rattle.definition.specs.declared.LiteralState.TheVariants.{Before, Value, Literal}
use Rattle.definition.specs.Calls.{literal_check}
use Rattle.definition.specs.Unquoted.{closed}
use Rattle.definition.specs.Basic.{is, white}
use Rattle.definition.specs.Words.{cut_here, ends, byte_kind, seen, unless_open, tokens_of, first_open}
use Rattle.definition.proofs.Lists.{rest_part}
use Rattle.definition.proofs.WordLaws.{kind_at, seen_at, stays_within, closed-seen}
use Rattle.text.specs.declared.tokens.Cursor.{Cursor}
use Rattle.text.specs.Tokens.{between, mode_at, open_check}

-- the bytes from a place on: one and those after it, or none
module _ (t : List ℕ) (i : ℕ) where
  pub drop-next : i < length t → drop i t ≡ get_or t i 0 ∷ drop (i + 1) t
  drop-next h = rw (add-one, drop-cons t i 0)

  pub drop-none : length t ≤ i → drop i t ≡ []
  drop-none h = drop_all i t h

pub ruleset look_steps = (nat_tests, drop-next, drop-none)

pub ruleset kind_steps = (nat_tests, drop-next)

module _ (t : List ℕ) (i : ℕ) where
  -- a byte past the period goes on with a word
  pub plain-goes : 46 < get_or t i 0 → stays_within (kind_at t i) ≡ true
  unfolding byte_kind
  plain-goes h = grind (arith, nat_tests)

  -- a space is blank
  pub space-kind : get_or t i 0 ≡ 32 → kind_at t i ≡ Blank
  unfolding byte_kind
  space-kind e = rw e

pub ruleset plain_steps = (plain-goes, nat_tests)

-- what a slice has from a place on is the rest
pub ruleset rest_steps = (rest_part)

-- inside a literal a byte goes on with a word unless it is white
quoted :
    (m a : ℕ) (n w c s d : Bool) → (n ≡ true → w ≡ true) →
    stays_within (seen (Literal m a) (if n then Newline else if w then Blank else if c then Cut else if s then Star else if d then Period else Other)) ≡ not w
quoted m a true w c s d h = rw (h refl)
quoted m a false true c s d h = refl
quoted m a false false true s d h = refl
quoted m a false false false true d h = refl
quoted m a false false false false true h = refl
quoted m a false false false false false h = refl

newline-white : (b : ℕ) → eqb b 10 ≡ true → white b ≡ true
newline-white b e = rw (eqb-true b 10 e)

pub quoted-goes : (t : List ℕ) (m a i : ℕ) → stays_within (seen_at t (Literal m a) i) ≡ not (white (get_or t i 0))
unfolding byte_kind
quoted-goes t m a i =
    let b = get_or t i 0 in
    let bs = drop (i + 1) t in
    quoted m a (eqb b 10) (white b) (cut_here (b ∷ bs)) (is "*" b) (is "." b && ends bs) (newline-white b)

-- outside one it is what it is
pub unquoted-goes : (t : List ℕ) (q : LiteralState) (i : ℕ) → closed q ≡ true → stays_within (seen_at t q i) ≡ stays_within (kind_at t i)
unquoted-goes t q i c = rw (closed-seen q (kind_at t i) c)

pub not-literal : (q : LiteralState) → ((m a : ℕ) → q ≡ Literal m a → ⊥) → closed q ≡ true
not-literal (Before n) h = refl
not-literal Value h = refl
not-literal (Literal m a) h = absurd (h m a refl)

-- ---------------------------------------------------------------- where a reader stands

module _ (s : Cursor) where
  pub mode-closed : closed s.literals ≡ true → mode_at s ≡ between (eqb s.at 0)
  mode-closed h = rw h

-- ---------------------------------------------------------------- refusal 50

module _ (t : List ℕ) where
  open-said :
      (q : LiteralState) (at : ℕ) →
      first_open (tokens_of t) ≡ first_open (unless_open q Newline []) →
      literal_check t ≡ open_check (record { at = at; literals = q })
  unfolding literal_check first_open
  open-said (Before n) at e = rw (e, literal_check)
  open-said Value at e = rw (e, literal_check)
  open-said (Literal m a) at e = rw (e, literal_check)

  -- what the check of a text is, where its tokens end at s
  pub ends_open : (s : Cursor) → first_open (tokens_of t) ≡ first_open (unless_open s.literals Newline []) → literal_check t ≡ open_check s
  ends_open s e = open-said s.literals s.at e
