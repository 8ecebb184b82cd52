use Rattle.ranks.proofs.Reports.{one_has_come, report_here}
use Rattle.ranks.proofs.reading.last_report.Goals as goal

pub overflow_sub-result : goal.overflow_sub-result
overflow_sub-result c = one_has_come c.args.points.now c.args.time c.points_by.result c.points_by.ensures.parts c.points_by.ensures.bound c.requires.begun

pub returns : goal.returns
returns c =
    report_here c.args.points.now c.args.time c.points_by.result _ c.points_by.ensures.parts c.points_by.ensures.bound
    (one_has_come c.args.points.now c.args.time c.points_by.result c.points_by.ensures.parts c.points_by.ensures.bound c.requires.begun)
