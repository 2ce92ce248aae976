-- `has_ample` of a text's words meets its contract.
use Rattle.std.proofs.Common.{arith}
use borrow.Author.Tests.{leb-true}
use Rattle.definition.proofs.WordingLaws.{words_most}
use Rattle.wording.proofs.WordingWritten.has_ample.Goals as goal

pub returns : goal.returns
returns c = λ h. omega (arith, leb-true _ c.args.places h, words_most c.args.self.text.now)
