-- `Copybooks::key_of_set` meets its contract: the others are there behind the first.
use Rattle.std.proofs.Common.{arith, ◌∙◌}
use Rattle.key.proofs.SetLaws.{sum_next, all_later, placed, others_agree}
use Rattle.key.proofs.family.Copybooks.key_of_set.Goals as goal

pub all_agree-requires : goal.all_agree-requires
all_agree-requires c =
    let lengths = c.args.self.lengths.now in
    rw all_later
    (omega (arith, c.split_at.ensures.back_len, c.requires.all_there, sum_next lengths 0 c.requires.some-there))

pub returns-then-branch : goal.returns-then-branch
returns-then-branch c =
    let lengths = c.args.self.lengths.now in
    c.ok_or.ensures.value
    ∙ placed _ _ _ c.candidate.ensures c.map.ensures.cases
    ∙ others_agree _ _ lengths c.args.self.texts.now c.requires.some-there c.split_at.ensures.front
    c.in_ok-found.ensures (all_later lengths) c.split_at.ensures.back c.in_ok-all_agree.ensures
    c.if-branch.true
