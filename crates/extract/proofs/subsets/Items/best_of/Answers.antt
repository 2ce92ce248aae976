-- `Items::best_of` meets its contract.
use Rattle.extract.proofs.SearchLaws.{looking-starts, passes-wide, passes-light, takes-heavy, looking-ends}
use Rattle.extract.proofs.subsets.Items.best_of.Goals.{then-sums-limit+then-best-sums, else-sums-limit}
use Rattle.extract.proofs.subsets.Items.best_of.Goals.{else-sums-limit-via-then-sums-limit+else-best-sums, else-sums-limit-via-else-sums-limit}
use Rattle.extract.proofs.subsets.Items.best_of.Goals as goal

pub loop-number-init : goal.loop-number-init
loop-number-init c = looking-starts c.requires

pub loop-number-preserved : goal.loop-number-preserved
loop-number-preserved c =
    elim c.if-sums-limit.branch [
      | then-sums-limit+then-best-sums w ↦ rw w.best-is (search takes-heavy)
      | else-sums-limit w ↦
          rw w.best-is
          (elim w.else-sums-limit.branch [
            | else-sums-limit-via-then-sums-limit+else-best-sums w' ↦ search passes-light
            | else-sums-limit-via-else-sums-limit w' ↦ search passes-wide
          ])
    ]

pub returns : goal.returns
returns c = looking-ends c.loop-number.invariant c.loop-number-test.false
