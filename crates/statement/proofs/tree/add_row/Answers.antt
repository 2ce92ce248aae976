-- `tree::add_row` meets its contract: the innermost level that stays open is the statement's parent, and the usage of
-- its row holds around the statement.
use Prim.Native.Nat.{ℕ, suc, ◌<◌}
use mathlib.Core.Path.{◌≡◌, sym, ap, ap₂, subst, ◌∙◌}
use mathlib.Core.List.{List, ◌∷◌}
use native.Mathlib.Omega.{arith}
use lib.ListN.{length, set, length-set}
use lib.Seq.{get_or-set_same}
use Rattle.std.specs.Prelude.{Option}
use Rattle.definition.specs.declared.NamedUsage.{NamedUsage}
use Rattle.definition.specs.declared.Statement.{Statement}
use Rattle.definition.specs.Tree.{Open, opened, still_open, innermost}
use Rattle.definition.specs.Usages.{inheriting, around}
use Rattle.definition.proofs.ParentLaws.{Fit}
use Rattle.rows.specs.declared.Row.{Row}
use Rattle.rows.specs.Rows.{row_of_code, row_code, new_row, row_in}
use Rattle.rows.proofs.RowLaws.{of-code}
use Rattle.statement.specs.declared.tree.OpenLevels.{OpenLevels}
use Rattle.statement.specs.Levels.{top_down, stack_of, usage_around, Nested, Closed, Opened}
use Rattle.statement.specs.TreeReading.{Added}
use Rattle.statement.proofs.LevelLaws.{length-down, down-put, down-around, fit-more}
use Rattle.statement.proofs.tree.add_row.Goals as goal

module _
    (t : List ℕ) (w : List Row) (k : ℕ) (s : Statement) {o u : OpenLevels}
    (fits : k < length w) (closed : Closed w k o s.level u)
  where
    -- its usage holds around the statement
    around-is : usage_around w u.row ≡ around (still_open s.level (stack_of w o))
    around-is = down-around w u.levels k u.count u.row closed.fit closed.row ∙ ap around closed.is

    parent-is : u.row ≡ row_of_code (innermost (still_open s.level (stack_of w o)))
    parent-is = sym (of-code u.row) ∙ ap row_of_code (closed.row ∙ ap innermost closed.is)

    module _ {r : OpenLevels} (opening : Opened u s.level k r) where
      abbrev row : Row
      row = new_row t (inheriting (usage_around w u.row) s) u.row

      -- the levels that stay open are as they were
      stack-put : stack_of (set w k row) r ≡ opened s.level (suc k) row.statement.usage ∷ stack_of w u
      stack-put =
          let here : row_in (set w k row) k ≡ row = get_or-set_same w k row _ fits in
          opening.is (set w k row)
          ∙ ap (λ (x : Row). opened s.level (suc k) x.statement.usage ∷ top_down (set w k row) u.levels u.count (row_code x.parent)) here
          ∙ ap (λ (os : List Open). opened s.level (suc k) row.statement.usage ∷ os) (down-put w u.levels k row u.count (row_code u.row) closed.fit)

      nested-put : Nested (set w k row) (suc k) r
      nested-put =
          let few = length-down w u.levels u.count (row_code u.row) in
          record {
            few = opening.few;
            fit =
                subst (Fit (suc k)) (sym stack-put)
                (omega (arith, closed.few, few), omega arith, omega arith, fit-more k (stack_of w u) closed.fit);
            there = omega (arith, length-set w k row);
          }

      -- what the calls say together
      added :
          {a : Option NamedUsage} {q : Statement} {x : Row} →
          a ≡ usage_around w u.row →
          q ≡ inheriting a s →
          x ≡ new_row t q u.row →
          Added t w k o s (set w k x) r
      added {a} {q} {x} ea et ex =
          let is : x ≡ row = ex ∙ ap (λ (y : Statement). new_row t y u.row) (et ∙ ap (λ (y : Option NamedUsage). inheriting y s) ea) in
          subst (λ (y : Row). Added t w k o s (set w k y) r) (sym is)
          (record {
            row = ap₂ (λ (y : Option NamedUsage) (p : _). set w k (new_row t (inheriting y s) p)) around-is parent-is;
            levels =
                stack-put
                ∙ ap₂ (λ (y : Option NamedUsage) (os : List Open). opened s.level (suc k) (inheriting y s).usage ∷ os)
                around-is closed.is;
            nested = nested-put;
          })

-- the rows that are read are those of the table
there : {v w : List Row} {m k : ℕ} (o : OpenLevels) (level : ℕ) (u : OpenLevels) → v ≡ w → m ≡ k → Closed v m o level u → Closed w k o level u
there {v} {w} {m} {k} o level u p q h =
    subst (λ (x : List Row). Closed x k o level u) p (subst (λ (n : ℕ). Closed v n o level u) q h)

pub returns : goal.returns
returns c =
    let a = c.args in
    let e = c.new-before.ensures in
    let closed : Closed a.rows.now a.k a.o.now a.s.level c.close.new.self = there a.o.now a.s.level c.close.new.self e.0 e.1 c.close.ensures in
    let around : c.usage_around-around.result ≡ usage_around a.rows.now c.close.new.self.row =
    c.usage_around-around.ensures ∙ ap (λ (x : List Row). usage_around x c.close.new.self.row) e.0 in
    added a.text.now a.rows.now a.k a.s c.requires.0 closed c.open.ensures around c.inheriting.ensures c.new.ensures
