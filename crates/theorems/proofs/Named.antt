-- The laws that the attribute of a theorem names, each by a name that Rust can write.
-- Assumes nothing.
use Rattle.definition.proofs.CallsLaws.{reader-refuses}
use Rattle.definition.proofs.CardLaws.{view-checks}
use Rattle.definition.proofs.Cover.{occurrence-alike}
use Rattle.definition.proofs.DetailLaws.{details-length}
use Rattle.definition.proofs.MovedLaws.{lay-remainder}
use Rattle.definition.proofs.ParentLaws.{parents-forest}
use Rattle.theorems.proofs.OriginalLaws.{same-then, same-listing-then}
use Rattle.theorems.proofs.QuoteLaws.{same-words, plain_closed}
use Rattle.theorems.proofs.RestartedLaws.{same-slack}
use Rattle.theorems.proofs.UngroupedLaws.{same_entries, same-listing}
use Rattle.definition.proofs.UsageLaws.{along-forest}

pub ruleset occurrence_alike = (occurrence-alike)

pub ruleset lay_remainder = (lay-remainder)

pub ruleset reader_refuses = (reader-refuses)

pub ruleset details_length = (details-length)

pub ruleset parents_forest = (parents-forest)

pub ruleset along_forest = (along-forest)

pub ruleset same_usages = (same_entries, same-listing)

pub ruleset same_slack = (same-slack)

pub ruleset same_then = (same-then, same-listing-then)

pub ruleset plain_words = (same-words, plain_closed)

pub ruleset view_checks = (view-checks)
