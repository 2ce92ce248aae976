-- `tree::OpenLevels::open` meets its contract: fewer levels than the level itself are open, so there is room.
use borrow.Author.Rules.{rules}
use Prim.Native.Nat.{ℕ, ◌+◌, ◌≤◌, ◌<◌}
use mathlib.Core.Path.{◌≡◌}
use native.Mathlib.Omega.{arith}
use lib.ListN.{length, set}
use Rattle.std.specs.Prelude.{Some}
use Rattle.statement.specs.declared.tree.OpenLevels.{OpenLevels}
use Rattle.statement.specs.Levels.{Opened}
use Rattle.statement.proofs.LevelLaws.{down-more}
use Rattle.statement.proofs.tree.OpenLevels.open.Goals as goal

module _ (o : OpenLevels) (level k : ℕ) where
  -- one more level
  opening :
      length o.levels ≡ 256 →
      level < 256 →
      o.count ≤ level →
      Opened o level k (record { levels = set o.levels o.count level; count = o.count + 1; row = Some k })
  opening e b h = record { is = λ w. down-more w o.levels o.count level k (omega arith); few = omega arith }

pub returns : goal.returns
returns c = opening c.args.self.now c.args.level c.args.k (search rules) (omega arith) c.requires.0
