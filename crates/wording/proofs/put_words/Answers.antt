-- `put_words` meets its contract: one word after the other.
use Rattle.wording.proofs.WalkLaws.{word-room, word-put, words-put, words-passed}
use Rattle.wording.proofs.put_words.Goals as goal

pub span-requires : goal.span-requires
span-requires c = word-room c.loop-w.invariant (rw c.in-Word.is at c.word_at.ensures) c.requires.2

pub loop-w-preserved : goal.loop-w-preserved
loop-w-preserved c = word-put c.loop-w.invariant (rw c.in-Word.is at c.word_at.ensures) c.span.ensures

pub returns : goal.returns
returns c =
    let p = c.loop-w.invariant in
    let n = c.word_at in
    record {
      put = words-put p n.new.cursor n.result n.ensures c.in_default.not-Word;
      ends = words-passed p n.new.cursor n.result n.ensures c.in_default.not-Word;
    }
