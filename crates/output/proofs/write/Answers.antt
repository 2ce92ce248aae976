-- `output::write` meets its contract: an ample output has room, and another was measured.
use Rattle.std.proofs.Common.{◌≡◌, ◌≤◌, rules, arith, length}
use Rattle.output.specs.Puts.{Puts}
use Rattle.output.proofs.PutLaws.{room}
use Rattle.output.proofs.write.Goals as goal
use Rattle.output.proofs.write.Goals.{then-not-has_ample+else-lacks, else-not-has_ample}

pub returns : goal.returns
returns g c =
    let bs = g.W.Written.bytes c.args.what in
    let has : length bs ≤ length c.args.out.now =
    elim c.if-not-has_ample.branch [
      | then-not-has_ample+else-lacks w ↦ omega (arith, w.measure-needed.ensures, w.if-lacks.false)
      | else-not-has_ample w ↦ c.has_ample.ensures (search rules)
    ] in
    let p : Puts c.new-sink.result bs c.put.new.sink = c.put.ensures in
    let many : c.put.new.sink.at ≡ length bs = omega (arith, p.put.next, c.new-sink.ensures.first) in
    room bs c.args.out.now many (omega (arith, many)) {m = c.put.new.sink.at} (search rules)
