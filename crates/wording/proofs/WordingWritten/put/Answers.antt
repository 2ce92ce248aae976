-- `put` of a text's words meets its contract: one statement after the other.
use Rattle.wording.proofs.WalkLaws.{going-start, going-room, going_on, going-past, going-end}
use Rattle.wording.proofs.WordingWritten.put.Goals as goal

pub loop-first-init : goal.loop-first-init
loop-first-init c = rw c.at_start-cursor.ensures (going-start c.args.self.text.now c.args.sink.now)

pub put_statement-requires : goal.put_statement-requires
put_statement-requires c =
    let f = rw c.in-Word.is at c.word_at.ensures in
    (f.within, c.args.self.short, going-room c.loop-first.invariant f c.requires c.args.self.short)

pub loop-first-preserved-in-Word : goal.loop-first-preserved-in-Word
loop-first-preserved-in-Word c =
    let f = rw c.in-Word.is at c.word_at.ensures in
    going_on c.loop-first.invariant f c.put_statement.ensures.ends c.put_statement.ensures.put

pub loop-first-preserved : goal.loop-first-preserved
loop-first-preserved c = going-past c.loop-first.invariant (rw c.in-Stop.is at c.word_at.ensures)

pub returns-in-End : goal.returns-in-End
returns-in-End c = going-end c.loop-first.invariant (rw c.in-End.is at c.word_at.ensures)
