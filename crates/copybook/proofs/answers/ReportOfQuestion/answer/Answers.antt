-- A report's `answer` meets its contract.
use Rattle.reports.proofs.AnswerLaws.{laid-settled, laid-chained}
use Rattle.copybook.proofs.AskedLaws.{record-deep}
use Rattle.copybook.proofs.answers.ReportOfQuestion.answer.Goals as goal

pub write_details-requires : goal.write_details-requires
write_details-requires c =
    let l = c.requires.out in (
      record { few = l.listed.few; table = l.entered; deep = record-deep l.listed },
      record { low = l.listed.low; fields_are = l.listed.fields_are },
    )

pub write_reasons-requires : goal.write_reasons-requires
write_reasons-requires c =
    let l = c.requires.out in
    let n = c.requires.work in
    record { table = l.entered; settled = laid-settled n l.listed; chained = laid-chained n l.listed }
