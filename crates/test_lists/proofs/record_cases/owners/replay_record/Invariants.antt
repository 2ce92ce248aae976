-- `owners::replay_record` meets its contract: no position that was counted is lost.
use Rattle.replay.specs.Counting.{Onward}
use Rattle.test_lists.proofs.record_cases.owners.replay_record.Given as goal

abbrev pub invariant-loop : goal.invariant-loop
invariant-loop l = Onward l.fn.positions l.positions

abbrev pub invariant-loop-position : goal.invariant-loop-position
invariant-loop-position l = Onward l.fn.positions l.positions
