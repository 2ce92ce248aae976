-- `tokens::next_line` meets its contract: what is dropped goes on to the first byte that ends a line.
use Prim.Native.Nat.{ℕ, zero, suc, ◌+◌, ◌-◌, ◌<◌, ◌≤◌}
use mathlib.Core.Path.{◌≡◌, subst, sym, ◌∙◌, ap}
use mathlib.Core.Bool.{true}
use mathlib.Core.List.{List}
use native.Mathlib.Omega.{arith}
use lib.ListN.{length, get_or}
use Rattle.std.specs.Prelude.{Option, None, Some, MatchOption}
use Rattle.std.proofs.Common.{rules, tests}
use Rattle.std.proofs.lemmas.Iterator.{first_from_Range}
use Rattle.std.proofs.lemmas.List.{get_or_read}
use Rattle.definition.specs.declared.Mode.TheVariants.{Fresh, Dropped}
use Rattle.definition.specs.declared.LiteralState.{LiteralState}
use Rattle.definition.specs.Unquoted.{closed}
use Rattle.definition.proofs.WordLaws.{dropped-newline, dropped-next, tokens-end}
use Rattle.text.specs.Tokens.{tokens_from, NextLine}
use Rattle.text.proofs.tokens.next_line.Goals.{After-find}
use Rattle.text.proofs.tokens.next_line.Goals as goal

module _ (t : List ℕ) (at : ℕ) where
  -- so many bytes are dropped
  along :
      (k : ℕ) → at + k ≤ length t → ((i : ℕ) → at ≤ i → i < at + k → get_or t i 0 ≡ 10 → ⊥) →
      (q : LiteralState) → closed q ≡ true → tokens_from t q Dropped at ≡ tokens_from t q Dropped (at + k)
  along zero l on q c = ap (tokens_from t q Dropped) (omega arith)
  along (suc k) l on q c =
      along k (omega arith) (λ i a b. on i a (omega arith)) q c
      ∙ dropped-next t q c (at + k) (omega arith) (on (at + k) (omega arith) (omega arith))
      ∙ ap (tokens_from t q Dropped) (omega arith)

  module _ (h : at ≤ length t) where
    -- those up to a place after it
    to : (r : ℕ) → at ≤ r → r ≤ length t → ((i : ℕ) → at ≤ i → i < r → get_or t i 0 ≡ 10 → ⊥) →
        (q : LiteralState) → closed q ≡ true → tokens_from t q Dropped at ≡ tokens_from t q Dropped r
    to r a b on q c = along (r - at) (omega arith) (λ i d e. on i d (omega arith)) q c ∙ ap (tokens_from t q Dropped) (omega arith)

    abbrev First : Option ℕ → Type 0
    First r =
        MatchOption r
        ((i : ℕ) → at ≤ i → i < length t → get_or t i 0 ≡ 10 → ⊥)
        (λ k. (at ≤ k) × (k < length t) × (get_or t k 0 ≡ 10) × ((i : ℕ) → at ≤ i → i < k → get_or t i 0 ≡ 10 → ⊥))

    none : First None → NextLine t at (length t)
    none on = record { up = h; within = omega arith; rest = λ q c. to (length t) h (omega arith) on q c ∙ tokens-end t q Dropped (length t) (omega arith) ∙ sym (tokens-end t q Fresh (length t) (omega arith)) }

    found : (k : ℕ) → First (Some k) → NextLine t at (k + 1)
    found k m =
        let a = m.0 in
        let b = m.1 in
        record { up = omega arith; within = omega arith; rest = λ q c. to k a (omega arith) m.3 q c ∙ dropped-newline t q c k b m.2 }

first : (c : After-find) → First c.args.text.now c.args.at c.requires c.find.result
first c =
    let t = c.args.text.now in
    first_from_Range _ _ _ _ (λ i. get_or t i 0 ≡ 10) (λ i. get_or t i 0 ≡ 10 → ⊥) c.find.ensures.ran
    (λ x q k. grind (arith, tests, get_or_read))
    (λ x q k. (search rules, grind (arith, tests, get_or_read)))

pub returns-in-Some : goal.returns-in-Some
returns-in-Some c = found c.args.text.now c.args.at c.requires c.in-Some.i (subst (First c.args.text.now c.args.at c.requires) c.in-Some.is (first (goal.at.returns-in-Some c).After-find))

pub returns-in-None : goal.returns-in-None
returns-in-None c = none c.args.text.now c.args.at c.requires (subst (First c.args.text.now c.args.at c.requires) c.in-None.is (first (goal.at.returns-in-None c).After-find))
