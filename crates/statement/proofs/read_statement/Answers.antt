-- `statement::read_statement` meets its contract: its tokens are those that the first word begins, a period, or none.
use Prim.Native.Nat.{ℕ, ◌+◌, ◌-◌, ◌≤◌}
use mathlib.Core.Path.{refl}
use mathlib.Core.List.{List, ◌∷◌}
use native.Mathlib.Omega.{arith}
use Rattle.definition.specs.declared.Span.{Span}
use Rattle.definition.specs.declared.Token.{Token}
use Rattle.definition.specs.declared.Token.TheVariants.{Word}
use Rattle.definition.specs.Basic.{Answer, Ok, Err}
use Rattle.definition.specs.Words.{first_open}
use Rattle.definition.proofs.StatementLaws.{statement-empty}
use Rattle.definition.proofs.WordLaws.{sentences-stop}
use Rattle.text.specs.declared.tokens.Cursor.{Cursor}
use Rattle.text.specs.Tokens.{tokens_at, FirstWord, FirstStop}
use Rattle.statement.specs.declared.StatementRead.{StatementRead}
use Rattle.statement.specs.Reading.{Followed, FirstSkipped, FirstStatement}
use Rattle.statement.proofs.read_statement.Goals as goal

-- what holds from a later place on holds from an earlier one on
earlier-followed : {ts : List Token} {t : List ℕ} {low later : ℕ} {n : Cursor} → low ≤ later → Followed ts t later n → Followed ts t low n
earlier-followed h f = record { all_are = f.all_are; opens = f.opens; up = omega arith; within = f.within }

earlier : (ts : List Token) (t : List ℕ) (low later : ℕ) (n : Cursor) → low ≤ later → (y : Answer StatementRead) → FirstStatement ts t later y n → FirstStatement ts t low y n
earlier ts t low later n h (Ok (StatementRead.Kept s)) g = record { is = g.is; fits = g.fits; followed = earlier-followed h g.followed }
earlier ts t low later n h (Ok StatementRead.Skipped) g = record { is = g.is; followed = earlier-followed h g.followed }
earlier ts t low later n h (Ok StatementRead.End) g = g
earlier ts t low later n h (Err r) g = g

module _ (t : List ℕ) (from : Cursor) {n : Cursor} where
  -- the statement of a first word is the first one
  begun : {w : Span} (m : Cursor) (y : Answer StatementRead) → FirstWord (tokens_at t from) t from.at w n → FirstStatement (Word w ∷ tokens_at t n) t n.at y m → FirstStatement (tokens_at t from) t (from.at + 1) y m
  begun {w} m y f g = rw f.all_are (earlier (Word w ∷ tokens_at t n) t (from.at + 1) n.at m (omega arith) y g)

  -- a period alone is an empty statement
  empty : FirstStop (tokens_at t from) t from.at n → FirstSkipped (tokens_at t from) t (from.at + 1) n
  unfolding first_open
  empty s = rw s.all_are (record { is = statement-empty t; followed = record { all_are = sentences-stop (n.at - 1) (tokens_at t n); opens = refl; up = omega arith; within = s.within } })

pub returns-in-Word : goal.returns-in-Word
returns-in-Word c = let a = c.args in begun a.text.now a.cursor.now _ c.read_levelled.result c.in-Word.ensures c.read_levelled.ensures

pub returns-in-Stop : goal.returns-in-Stop
returns-in-Stop c = let a = c.args in empty a.text.now a.cursor.now c.in-Stop.ensures
