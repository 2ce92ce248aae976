-- `redefines::FingerprintedRows::pass_back` meets its contract: the rows from `k` up to the last were passed.
use Rattle.layout.specs.Targets.{among_bases}
use Rattle.layout.specs.Fingerprints.{PassedOver}
use Rattle.layout.proofs.redefines.FingerprintedRows.pass_back.Given as goal

abbrev pub invariant-loop-k : goal.invariant-loop-k
invariant-loop-k l = PassedOver l.self.rows.all.now (among_bases l.among) l.fingerprint l.last l.k

abbrev pub decreases-loop-k : goal.decreases-loop-k
decreases-loop-k l = l.k
