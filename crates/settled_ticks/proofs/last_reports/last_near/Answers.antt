use Rattle.ranks.proofs.Reports.{one_has_come}
use Rattle.settled_ticks.proofs.LastReports.{last_of_come}
use Rattle.settled_ticks.proofs.last_reports.last_near.Goals as goal

pub overflow_sub-result : goal.overflow_sub-result
overflow_sub-result c = one_has_come c.args.points.now c.args.time c.count_by.result c.count_by.ensures.parts c.count_by.ensures.bound c.requires.begun

pub returns-clause-last : goal.returns-clause-last
returns-clause-last c = last_of_come c.args.points.now c.args.time c.count_by.result c.count_by.ensures.parts c.count_by.ensures.bound c.requires.begun
