-- `owners::replay_records` meets its contract: the cases that were counted, and those that are still to come, are all
-- cases of the list; no more records differ than positions, and where none does, no position does.
use Rattle.std.proofs.Common.{◌≡◌, ◌≤◌, ◌<◌, ◌+◌, min, false}
use Rattle.replay.specs.Tallies.{most}
use Rattle.replay.specs.Bare.{bare_ahead}
use Rattle.replay.specs.Counting.{begun, bare_cases}
use Rattle.test_lists.proofs.record_cases.owners.replay_records.Given as goal

abbrev pub invariant-loop-case : goal.invariant-loop-case
invariant-loop-case l =
    (min most (l.records.cases + begun false (bare_ahead l.case-iterator.rest.list.now l.case-iterator.rest.at))
    ≡ min most (bare_cases l.fn.list))
    × (l.records.cases + l.positions.agree ≤ l.positions.cases + l.records.agree)
    × (l.records.cases < most → l.records.agree ≡ l.records.cases → l.positions.agree ≡ l.positions.cases)
