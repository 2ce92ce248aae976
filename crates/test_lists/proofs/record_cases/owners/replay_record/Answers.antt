-- The positions of the runs, and those past the end.
use Rattle.replay.proofs.TallyLaws.{onward-trans}
use Rattle.test_lists.proofs.record_cases.owners.replay_record.Goals as goal

pub returns : goal.returns
returns c = onward-trans _ _ _ c.loop.invariant c.replay_end-2.ensures
