-- `record::first_field` meets its contract, case by case.
use native.Mathlib.Omega.{arith}
use Rattle.layout.proofs.EntriesLaws.{counted-numbered}
use Rattle.record.proofs.LaidLaws.{few-rows, roots_kept, root-dropped}
use Rattle.record.proofs.first_field.Goals as goal

pub returns-then-n-lt2 : goal.returns-then-n-lt2
returns-then-n-lt2 c = search few-rows

pub next_of-requires : goal.next_of-requires
next_of-requires c =
    let r = c.args.rows in
    counted-numbered r.all.now 0 r.count r.fits (omega (arith, c.if-n-lt2.false)) c.requires

pub returns-then-next_of-n : goal.returns-then-next_of-n
returns-then-next_of-n c = search roots_kept

pub returns-else-next_of-n : goal.returns-else-next_of-n
returns-else-next_of-n c = search root-dropped
