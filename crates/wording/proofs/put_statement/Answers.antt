-- `put_statement` meets its contract: how many words, the end, and the words.
use Rattle.std.proofs.Common.{arith, ◌∷◌}
use Rattle.text.specs.Tokens.{words_from}
use Rattle.wording.specs.Extents.{end_from}
use Rattle.wording.proofs.WalkLaws.{spans#, parts-put}
use Rattle.wording.proofs.put_statement.Goals as goal

pub overflow_add-extent : goal.overflow_add-extent
overflow_add-extent c =
    let a = c.args in
    let ws = words_from a.text.now a.cursor.now in
    omega (arith, c.requires.2, spans# (a.first ∷ ws), c.extent_from-extent.ensures.words)

pub span-requires : goal.span-requires
span-requires c =
    let a = c.args in
    let ws = words_from a.text.now a.cursor.now in
    omega (arith, c.requires.2, spans# (a.first ∷ ws), c.number.ensures.put.next, c.number-2.ensures.put.next)

pub put_words-requires : goal.put_words-requires
put_words-requires c =
    let a = c.args in
    let ws = words_from a.text.now a.cursor.now in (
      c.requires.0,
      c.requires.1,
      omega (arith, c.requires.2, spans# (a.first ∷ ws), spans# ws, c.number.ensures.put.next, c.number-2.ensures.put.next, c.span.ensures.put.next),
    )

pub returns-clause-put : goal.returns-clause-put
returns-clause-put c =
    let a = c.args in
    let e = c.extent_from-extent.ensures in
    parts-put a.first (words_from a.text.now a.cursor.now) (end_from a.text.now a.cursor.now) e.words c.number.ensures
    (rw e.end at c.number-2.ensures) c.span.ensures c.put_words.ensures.put
