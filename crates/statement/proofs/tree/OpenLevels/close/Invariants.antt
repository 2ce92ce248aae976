-- `tree::OpenLevels::close` meets its contract. The loop's invariant: what stays open of all levels is what stays open
-- of those that are left.
use Prim.Native.Nat.{ℕ, ◌≤◌, ◌<◌}
use mathlib.Core.Path.{◌≡◌}
use mathlib.Core.List.{List}
use Rattle.definition.specs.Tree.{still_open}
use Rattle.definition.proofs.ParentLaws.{Fit}
use Rattle.rows.specs.declared.Row.{Row}
use Rattle.statement.specs.declared.tree.OpenLevels.{OpenLevels}
use Rattle.statement.specs.Levels.{stack_of}
use Rattle.statement.proofs.tree.OpenLevels.close.Given as goal

-- o has what is left of o₀
pub record Left (w : List Row) (k level : ℕ) (o₀ o : OpenLevels) : Type 0 where
  pub byte : level < 256
  pub few : o.count ≤ 256
  pub whole : Fit k (stack_of w o₀)
  pub fit : Fit k (stack_of w o)
  pub rest : still_open level (stack_of w o₀) ≡ still_open level (stack_of w o)

abbrev pub invariant-loop-inner : goal.invariant-loop-inner
invariant-loop-inner l = (l.self.count ≡ l.inner) × Left l.rows.all.now l.rows.count l.level l.initial.self l.self

abbrev pub decreases-loop-inner : goal.decreases-loop-inner
decreases-loop-inner l = l.inner
