-- `picture::read_shape` meets its contract: a refusal of the last checks is handed on.
use mathlib.Core.Path.{sym, ◌∙◌}
use Rattle.definition.proofs.Answers.{handed_on}
use Rattle.picture.proofs.Shapes.{checks-refused}
use Rattle.picture.proofs.read_shape.Goals as goal

pub returns-in_err-check-clause-same : goal.returns-in_err-check-clause-same
returns-in_err-check-clause-same c =
    handed_on _ c.from_residual-in_err-check.ensures.1
    ∙ sym (checks-refused _ _ _ c.trim.ensures c.in_ok-tallies.ensures.same c.of-shape.ensures c.in_err-check.ensures)
