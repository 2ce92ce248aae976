use Rattle.definition.specs.Computing.{computing}
use Rattle.definition.specs.Unquoted.{bare_tokens, bare_words, harmless_from}
use Rattle.definition.specs.Search.{seek}
use Rattle.theorems.specs.Ungrouped.{clauses_alone, named_alone, statement_alone, statements_alone, entries_alone}
use Rattle.theorems.specs.Ungrouped.{lasting, lasting_all, plain_groups}
use Rattle.theorems.specs.Restarted.{lay_restarted, layout_restarted, entries_restarted, none_lost}
use Rattle.theorems.specs.Original.{entries_then}
use Rattle.theorems.specs.Premises.{premises}
use Rattle.theorems.proofs.premises_hold_and_fail.Goals as goal

pub returns : goal.returns
unfolding
    premises computing bare_tokens bare_words harmless_from seek
    clauses_alone named_alone statement_alone statements_alone entries_alone lasting lasting_all plain_groups
    lay_restarted layout_restarted entries_restarted none_lost entries_then
returns c = tt
