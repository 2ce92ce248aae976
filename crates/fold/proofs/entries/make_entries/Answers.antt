-- `entries::make_entries` meets its contract: there is room, and what was put is read back.
use native.Mathlib.Omega.{arith}
use Rattle.fold.proofs.BuildLaws.{built-length}
use Rattle.fold.proofs.ReadLaws.{room-all, entered, rest-kept}
use Rattle.fold.proofs.entries.make_entries.Goals as goal

pub build_list-requires : goal.build_list-requires
build_list-requires c =
    let l = c.args.list in
    room-all l.text.now l.rows.all.now l.from l.rows.count c.args.entries.now c.requires.0 c.requires.1

pub returns-clause-inside : goal.returns-clause-inside
returns-clause-inside c =
    let l = c.args.list in
    omega (
      arith,
      (room-all l.text.now l.rows.all.now l.from l.rows.count c.args.entries.now c.requires.0 c.requires.1).fits,
      c.build_list.ensures.next,
      built-length c.build_list.ensures,
    )

pub returns-clause-entered : goal.returns-clause-entered
returns-clause-entered c =
    let l = c.args.list in
    entered l.text.now l.rows.all.now l.from l.rows.count c.requires.0 c.requires.1 c.build_list.ensures

pub returns-clause-widest : goal.returns-clause-widest
returns-clause-widest c = omega (arith, c.build_list.ensures.most)

pub returns-clause-rest : goal.returns-clause-rest
returns-clause-rest c =
    let l = c.args.list in
    rest-kept l.text.now l.rows.all.now l.from l.rows.count c.requires.0 c.requires.1 c.build_list.ensures
