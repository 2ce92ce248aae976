-- One name for all that is sealed: a theorem that computes the definition at an example says `unfolding computing`.
-- Assumes nothing.
use Rattle.definition.specs.Basic.{same, digits, number, sum, and_then}
use Rattle.definition.specs.Words.{byte_kind, said_next, tokens, first_open, sentences, statement_words, periods}
use Rattle.definition.specs.Statement.{keyword_of, clause_step, step, clauses, named, statement, statements}
use Rattle.definition.specs.Tree.{above, not_above, forest, higher, still_open, parents, parents_in, fields}
use Rattle.definition.specs.Usages.{inherit, inherit_along}
use Rattle.definition.specs.Picture.{trim_start, trim, before_close, repeat, expand, legal, tally, before_point}
use Rattle.definition.specs.Picture.{after_point, without, kinded, symbols, picture}
use Rattle.definition.specs.Fold.{append, search_back, find, has_member, redefiners, widest, fold_check}
use Rattle.definition.specs.Fold.{folded_list, folded_below}
use Rattle.definition.specs.Storage.{alignment}
use Rattle.definition.specs.Layout.{lay}
use Rattle.definition.specs.Record.{record_length, variable, ends_fit, unfolded, layout}
use Rattle.definition.specs.Listing.{entry_bytes, entries_bytes, listing}
use Rattle.definition.specs.Wording.{spans_bytes, statements_bytes}
use Rattle.definition.specs.Owner.{laid, owner_from, overlaid}
use Rattle.definition.specs.Calls.{first_wide, text_checks, entry_checks, literal_check, kept_statements, record_tree}
use Rattle.definition.specs.Calls.{record_fields, entries, asked, report, picture_answer, picture_mask, owner_in}
use Rattle.definition.specs.Calls.{words_in, indicator_check, card_checks, on_cards}
use Rattle.definition.specs.Cards.{view_from, first_other}
use Rattle.definition.specs.Extract.{misweighed, chosen, up_from, heaviest, alone}
use Rattle.definition.specs.Calls.{extract_of, extract_in}
use Rattle.definition.specs.Details.{details_in, detail_bytes, details_bytes, listing_details}
use Rattle.definition.specs.Reasons.{latest, chains, chain_at, reasons_in, reasons_bytes}
use Rattle.definition.specs.Key.{named_in, key_in, all_agree, keys_in, copybooks, key_of_texts}

unfoldable pub computing : Unit {0}
unfolding
    same digits number and_then byte_kind said_next tokens first_open sentences statement_words periods
    keyword_of clause_step step clauses named statement statements
    above not_above forest higher still_open parents parents_in fields
    inherit inherit_along
    trim_start trim before_close repeat expand legal tally before_point after_point without kinded symbols picture
    append search_back find has_member redefiners widest fold_check folded_list folded_below
    alignment lay record_length variable ends_fit unfolded layout entry_bytes entries_bytes listing
    spans_bytes statements_bytes
    laid owner_from overlaid
    details_in detail_bytes details_bytes listing_details latest chains chain_at reasons_in reasons_bytes
    misweighed chosen up_from heaviest alone extract_of extract_in
    first_wide text_checks entry_checks literal_check kept_statements record_tree record_fields entries asked report
    picture_answer picture_mask owner_in words_in
    named_in key_in all_agree keys_in sum copybooks key_of_texts
    view_from first_other indicator_check card_checks on_cards
computing = tt
