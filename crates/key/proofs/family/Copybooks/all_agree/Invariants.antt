use Rattle.std.proofs.Common.{◌≡◌, true}
use Rattle.definition.specs.Key.{copybooks}
use Rattle.key.specs.Sought.{found_key}
use Rattle.key.specs.Sets.{all_agreed}
use Rattle.key.proofs.family.Copybooks.all_agree.Given as goal

-- what is left of the copybooks
abbrev pub invariant-loop-text : goal.invariant-loop-text
invariant-loop-text l =
    let n = l.work in
    let name = l.self.name.now in
    let a = found_key l.first.text.now l.first.found in
    all_agreed n name a true (copybooks l.self.lengths.now l.self.texts.now)
    ≡ all_agreed n name a l.agreed (copybooks l.text-iterator.lengths.now l.text-iterator.bytes.now)
