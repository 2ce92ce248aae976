-- `pass` meets its contract: what was passed is the first of the tokens without literals.
use Rattle.replay.proofs.AheadLaws.{passed, none-passed}
use Rattle.replay.proofs.bare.pass.Goals as goal

pub returns-in-Word : goal.returns-in-Word
returns-in-Word c =
    let a = c.pass_token-ahead in passed c.args.list.now c.args.at.now a.new.s a.result c.in-Word.is a.ensures

pub returns-in-End : goal.returns-in-End
returns-in-End c =
    let a = c.pass_token-ahead in
    none-passed c.args.list.now c.args.at.now a.new.s a.result c.in-End.field-0 c.in-End.is a.ensures
