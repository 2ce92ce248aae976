-- `List::count` meets its contract: the cases that were counted, and those that are still to come, are all cases.
use Rattle.std.proofs.Common.{◌≡◌, ◌+◌, min, false}
use Rattle.replay.specs.Tallies.{most}
use Rattle.replay.specs.Bare.{bare_ahead}
use Rattle.replay.specs.Counting.{begun, bare_cases, Onward}
use Rattle.test_lists.proofs.lists.List.count.Given as goal

abbrev pub invariant-loop-case : goal.invariant-loop-case
invariant-loop-case l =
    (min most (l.counted.cases + begun false (bare_ahead l.case-iterator.rest.list.now l.case-iterator.rest.at))
    ≡ min most (l.fn.counted.cases + bare_cases l.fn.list))
    × Onward l.fn.counted l.counted
