use Rattle.xmp_cli.proofs.ReportWords.{report_same, report_in_place}
use Rattle.xmp_cli.proofs.reports.report_of.Goals as goal

pub returns-in-Same : goal.returns-in-Same
returns-in-Same c = report_same c.args.planned.now.size c.args.planned.now.plan c.outcome.result c.outcome.ensures c.one_length.result.bytes c.old_len.result c.in-Same.is c.old_len.ensures c.one_length.ensures

pub returns-in-InPlace : goal.returns-in-InPlace
returns-in-InPlace c =
    report_in_place c.args.planned.now.size c.args.planned.now.plan c.outcome.result c.outcome.ensures c.one_length-in-InPlace.result.bytes c.old_len-in-InPlace.result c.in-InPlace.is
    c.old_len-in-InPlace.ensures c.one_length-in-InPlace.ensures
