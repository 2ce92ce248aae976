-- `extract::extract_of` meets its contract: 40, too many items, and what the search finds among their widths.
use mathlib.Core.Path.{◌∙◌}
use Rattle.std.proofs.lemmas.List.{length-take-le}
use Rattle.extract.proofs.ExtractLaws.{answers-40, answers-58, gatherable, handed-narrow, answers-chosen}
use Rattle.extract.proofs.extract_of.Goals as goal

pub returns-then-is_overlaid : goal.returns-then-is_overlaid
returns-then-is_overlaid c =
    answers-40 c.requires c.is_overlaid.ensures _ _ _ c.if-is_overlaid.true

pub returns-then-laid-gt-MOST_ITEMS : goal.returns-then-laid-gt-MOST_ITEMS
returns-then-laid-gt-MOST_ITEMS c =
    answers-58 c.requires c.is_overlaid.ensures _ _ _ c.if-is_overlaid.false c.if-laid-gt-MOST_ITEMS.true

pub put_widths-requires : goal.put_widths-requires
put_widths-requires c =
    let room = length-take-le c.args.laid.top _ c.if-laid-gt-MOST_ITEMS.false in
    gatherable c.requires c.is_overlaid.ensures c.if-is_overlaid.false _ room

pub choose-requires : goal.choose-requires
choose-requires c =
    handed-narrow c.requires c.is_overlaid.ensures c.if-is_overlaid.false c.put_widths.ensures c.if-laid-gt-MOST_ITEMS.false

pub returns : goal.returns
returns c =
    c.choose.ensures ∙ answers-chosen c.requires c.is_overlaid.ensures c.if-is_overlaid.false c.put_widths.ensures _ _ _
