-- `byte_owner` meets its contract: the definition's answer.
use Rattle.definition.specs.declared.Form.{Form}
use Rattle.definition.specs.Calls.{owner_in}
use Rattle.copybook.proofs.Same.{silent-asked}
use Rattle.copybook.proofs.byte_owner.Goals as goal

pub returns : goal.returns
returns c = silent-asked Form.FreeText (owner_in c.args.position) c.args.text.now c.args.work.now c.answer.ensures
