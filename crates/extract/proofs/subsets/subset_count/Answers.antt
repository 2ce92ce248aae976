-- `subsets::subset_count` meets its contract: a shift doubles so many times, and nothing is shifted out.
use mathlib.Core.Path.{◌∙◌}
use native.Mathlib.Omega.{arith}
use lib.Pow.{shl_exact}
use Rattle.extract.proofs.subsets.subset_count.Goals as goal

pub returns : goal.returns
returns c = shl_exact {a = 1} 1 c.args.n 64 (omega arith) (omega arith) ∙ omega arith
