-- `extract` meets its contract: the definition's answer.
use Rattle.definition.specs.declared.Form.{Form}
use Rattle.definition.specs.Calls.{extract_in}
use Rattle.copybook.proofs.Same.{silent-asked}
use Rattle.copybook.proofs.extract.Goals as goal

pub returns : goal.returns
returns c =
    let a = c.args in
    silent-asked Form.FreeText (extract_in a.weights.now a.limit a.budget) a.text.now a.work.now c.answer.ensures
