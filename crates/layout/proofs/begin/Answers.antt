-- `layout::begin` meets its contract: what is searched for among the earlier siblings is what places the item.
use Prim.Native.Nat.{ℕ, ◌≤◌}
use mathlib.Core.Bool.{Bool, true, false}
use mathlib.Core.Path.{◌≡◌, refl, sym, ap, ◌∙◌}
use mathlib.Core.List.{List}
use native.Mathlib.Omega.{arith}
use Rattle.definition.specs.declared.Span.{Span}
use Rattle.definition.specs.declared.Statement.{Statement}
use Rattle.std.specs.Prelude.{if◌then◌else◌, Option}
use Rattle.definition.specs.Basic.{is_given, Answer, Ok}
use Rattle.rows.specs.declared.Row.{Row}
use Rattle.rows.specs.Rows.{statement_at, row_of_code, row_code}
use Rattle.rows.proofs.RowLaws.{code-back, of-code}
use Rattle.layout.specs.declared.redefines.Start.{Start}
use Rattle.layout.specs.Targets.{seen_at, row_from, target_from, start_of, target_in, base_from, base_after}
use Rattle.layout.specs.Targets.{Named, plain_after, target_after}
use Rattle.layout.specs.Bare.{starts}
use Rattle.layout.specs.Outcomes.{Begun}
use Rattle.layout.proofs.SearchLaws.{target-named, base_on, back_none}
use Rattle.layout.proofs.begin.Goals as goal

-- the row that an item redefines, as a number
module _ {o : Answer Start} {x : Start} (e : o ≡ Ok x) {n : ℕ} (pt : target_in o ≡ row_of_code n) where
  target-code : row_code x.target ≡ n
  target-code = ap row_code (sym (ap target_in e) ∙ pt) ∙ code-back n

module _ (t : List ℕ) (w : List Row) (i last : ℕ) {s : Statement} (ps : s ≡ statement_at w i) where
  module _ {k : ℕ} (pk : k ≡ target_from t s.clauses.redefines w last) where
    -- the base is found from there back
    based : {b : Option ℕ} → b ≡ row_of_code (base_from t s.clauses.redefines w k k) → b ≡ row_of_code (base_after t w i last)
    based p =
        p
        ∙ ap row_of_code
        (ap (λ (n : ℕ). base_from t s.clauses.redefines w n n) pk
        ∙ go (is_given s.clauses.redefines)
        ∙ ap (λ (x : Statement). if is_given x.clauses.redefines then base_from t x.clauses.redefines w last last else 0) ps)
      where
        go :
            (g : Bool) →
            base_from t s.clauses.redefines w (if g then row_from t s.clauses.redefines false w last last else 0) (if g then row_from t s.clauses.redefines false w last last else 0)
            ≡ (if g then base_from t s.clauses.redefines w last last else 0)
        go true = sym (base_on t w s.clauses.redefines last last)
        go false = back_none t w s.clauses.redefines

    -- and what is named is the target
    targeted : {b : Option ℕ} → row_code b ≡ k → b ≡ row_of_code (target_after t w i last)
    targeted {b} p =
        sym (of-code b)
        ∙ ap row_of_code (p ∙ pk ∙ ap (λ (x : Statement). target_from t x.clauses.redefines w last) ps)

  begun :
      (multiple base cursor : ℕ) {o : Answer Start} {x : Start} →
      o ≡ Ok x →
      start_of o ≡ starts t s multiple (seen_at w last) base cursor →
      target_in o ≡ row_of_code (target_from t s.clauses.redefines w last) →
      {b b' o' : Option ℕ} (l : Option ℕ) →
      b ≡ row_of_code (base_from t s.clauses.redefines w (row_code x.target) (row_code x.target)) →
      b' ≡ b →
      o' ≡ x.target →
      row_code l ≡ plain_after w last →
      Begun t w i multiple base last cursor (record { offset = x.offset; target = o'; base = b'; plain = l })
  begun multiple base cursor e po pt l pb eb eo pl =
      let pk = target-code e pt in
      record {
        starts =
            ap (λ (y : Statement). starts t y multiple (seen_at w last) base cursor) (sym ps)
            ∙ sym po
            ∙ ap start_of e;
        found = record {
          target = eo ∙ targeted pk refl;
          base = eb ∙ based pk pb;
          plain = sym (of-code l) ∙ ap row_of_code pl;
        };
      }

-- the row that an item redefines: one before it, and of that name
module _ (t : List ℕ) (w : List Row) (r : Span) (last : ℕ) {o : Answer Start} {x : Start} (e : o ≡ Ok x) (pt : target_in o ≡ row_of_code (target_from t r w last)) where
  earlier : target_from t r w last ≤ last → row_code x.target ≤ last
  earlier h = rw (target-code e pt) h

  of-name : Named t r w (row_code x.target)
  of-name = rw (target-code e pt) (target-named t w r last)

-- the statement that is read from the same rows
re-read : (i : ℕ) {v w : List Row} → v ≡ w → statement_at w i ≡ statement_at v i
re-read i q = ap (λ (x : List Row). statement_at x i) (sym q)

pub base_of-base-requires : goal.base_of-base-requires
base_of-base-requires c =
    let p = c.requires in
    let found = c.start_of.ensures in
    let before = earlier _ _ _ _ c.in_ok-start.was found.1 found.2 in
    (omega (arith, before, p.1, c.new.ensures.1, c.new-fingerprinted.ensures.2), of-name _ _ _ _ c.in_ok-start.was found.1)

pub returns : goal.returns
returns c =
    let a = c.args in
    let x = c.new-fingerprinted in
    let same = x.ensures.1 ∙ c.new.ensures.0 in
    let found = c.start_of.ensures in
    rw (← x.ensures.0, ← same)
    (begun x.result.text.now x.result.rows.all.now a.i a.next.last (re-read a.i same) a.multiple a.next.base a.next.cursor
    c.in_ok-start.was found.0 found.1 c.plain_after.result c.base_of-base.ensures.0 c.number_of-2.ensures c.number_of.ensures
    c.plain_after.ensures)
