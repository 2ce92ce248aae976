-- `family::key_of` meets its contract: the question is asked, and answered with what is found.
use Rattle.std.proofs.Common.{ap, ◌∙◌}
use Rattle.key.specs.Sets.{read_key}
use Rattle.key.proofs.ReadLaws.{key-asked}
use Rattle.key.proofs.family.key_of.Goals as goal

pub returns : goal.returns
returns c =
    let a = c.args in
    ap (λ x. read_key a.text.now x.answer) c.ask.ensures
    ∙ key-asked (record { name = a.name }) a.text.now a.work 0
