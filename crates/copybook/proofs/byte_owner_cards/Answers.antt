-- `byte_owner_cards` meets its contract: the definition's answer.
use Rattle.definition.specs.declared.Form.{Form}
use Rattle.definition.specs.Calls.{owner_in}
use Rattle.copybook.proofs.Same.{silent-asked}
use Rattle.copybook.proofs.byte_owner_cards.Goals as goal

pub returns : goal.returns
returns c = silent-asked Form.Cards (owner_in c.args.position) c.args.cards.now c.args.work.now c.answer.ensures
