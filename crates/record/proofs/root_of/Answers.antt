-- `record::root_of` meets its contract.
use mathlib.Core.Path.{◌∙◌, ap}
use Rattle.std.specs.Prelude.{Some}
use Rattle.rows.specs.declared.Row.{Row}
use Rattle.record.proofs.RootLaws.{no-root, a-root}
use Rattle.record.proofs.root_of.Goals as goal

pub returns-then-from-eq0 : goal.returns-then-from-eq0
returns-then-from-eq0 c =
    let r = c.args.rows in no-root r.all.now c.args.from r.count c.requires.1 c.if-from-eq0.true

pub returns : goal.returns
returns c =
    let r = c.args.rows in
    ap (λ (x : Row). Some x.statement) c.row.ensures
    ∙ a-root r.all.now c.args.from r.count c.requires.1 c.if-from-eq0.false c.requires.0
