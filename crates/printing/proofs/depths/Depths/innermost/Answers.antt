-- `Depths::innermost` meets its contract: the last number that is not 0 is of the innermost list that is open.
use Rattle.std.proofs.Common.{rules, ◌∙◌}
use Rattle.printing.proofs.Steps.{found}
use Rattle.printing.proofs.depths.Depths.innermost.Goals as goal

pub returns-clause-depth : goal.returns-clause-depth
returns-clause-depth c =
    c.unwrap_or.ensures
    ∙ found c.args.self.now.left c.rposition.result (search rules) (λ i e. search rules) (λ i e. search rules)
    (λ i e. search rules) (λ e. search rules)
