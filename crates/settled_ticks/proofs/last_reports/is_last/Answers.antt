use Rattle.std.proofs.Common.{arith}
use Rattle.std.proofs.lemmas.Bool.Decides.{nat_tests}
use Rattle.settled_ticks.proofs.LastReports.{last_before, last_of_all}
use Rattle.settled_ticks.proofs.last_reports.is_last.Goals as goal

pub returns-then-at-points-clause-last : goal.returns-then-at-points-clause-last
returns-then-at-points-clause-last c = λ _.
    last_of_all c.args.points.now c.args.time c.args.at _ c.if-points-at.false c.if-time-points.false c.if-at-points.true

pub returns-else-at-points-clause-last : goal.returns-else-at-points-clause-last
returns-else-at-points-clause-last c = λ next.
    last_before c.args.points.now c.args.time c.args.at _ c.if-points-at.false c.if-time-points.false c.requires.order (grind (arith, nat_tests))
