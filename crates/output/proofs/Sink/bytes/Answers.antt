-- `Sink::bytes` meets its contract.
use Rattle.std.proofs.Common.{refl, arith}
use Rattle.std.proofs.lemmas.List.{take_more}
use Rattle.output.proofs.PutLaws.{puts-none, ◌and◌, put-part}
use Rattle.output.proofs.Sink.bytes.Goals as goal

pub loop-b-init : goal.loop-b-init
loop-b-init g c = puts-none _

pub loop-b-preserved : goal.loop-b-preserved
loop-b-preserved g c =
    rw (take_more c.args.bytes c.loop-b.b-index 0 (omega arith)) (c.loop-b.invariant and c.byte.ensures)

pub returns-else-self : goal.returns-else-self
returns-else-self g c =
    record {
      name = refl;
      put = record {
        next = omega arith;
        same = put-part c.args.self.now.out.now c.args.bytes c.args.self.now.at g.row.N
            c.copy_from_slice.ensures.after (omega arith) (omega arith);
      };
    }
