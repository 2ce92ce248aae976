-- The measures and the invariants of the cycle of calls of the walk that builds the table. The measure is the number of
-- rows left.
-- Assumes nothing.
use Rattle.std.proofs.Common.{◌≡◌, ◌+◌, ◌*◌, ◌-◌}
use Rattle.fold.proofs.WalkLaws.{Listing, Redefining, chain_left}
use Rattle.fold.proofs.entries.+build.Given as goal

abbrev pub decreases-build_based : goal.decreases-build_based
decreases-build_based l = 10 * (l.base.end - l.base.row) + 1

abbrev pub decreases-build_item : goal.decreases-build_item
decreases-build_item l = 10 * (l.row.end - l.row.row)

abbrev pub decreases-build_inner : goal.decreases-build_inner
decreases-build_inner l = 10 * (l.row.end - l.row.row) - 1

abbrev pub decreases-build_list : goal.decreases-build_list
decreases-build_list l = 10 * (l.list.rows.count - l.list.from) + 8

abbrev pub decreases-build_members : goal.decreases-build_members
decreases-build_members l = 10 * (l.base.rows.count - l.base.row) + 5

abbrev pub decreases-build_redefiners : goal.decreases-build_redefiners
decreases-build_redefiners l = 10 * (l.base.rows.count - l.base.end) + 4

abbrev pub decreases-build_shown : goal.decreases-build_shown
decreases-build_shown l = 10 * (l.row.rows.count - l.row.row) + 7

abbrev pub invariant-build_list-loop-sibling : goal.invariant-build_list-loop-sibling
invariant-build_list-loop-sibling l =
    (goal.iterator-build_list-loop-sibling).can_next l.sibling-iterator
    × (goal.iterator-build_list-loop-sibling).is_finite l.sibling-iterator
    × (l.sibling-iterator.rows ≡ l.list.rows)
    × Listing l.list.text.now l.list.rows.all.now l.initial.entries l.entries l.list.from l.list.rows.count l.initial.r
    l.sibling-iterator.from l.r

abbrev pub invariant-build_redefiners-loop-next : goal.invariant-build_redefiners-loop-next
invariant-build_redefiners-loop-next l =
    let x = l.base in
    Redefining x.text.now x.rows.all.now l.initial.entries l.entries x.row x.end x.rows.count l.initial.r l.r l.next

abbrev pub decreases-build_redefiners-loop-next : goal.decreases-build_redefiners-loop-next
decreases-build_redefiners-loop-next l = chain_left l.base.rows.count l.next
