use Rattle.settled_ticks.proofs.LastReports.{last_alone}
use Rattle.settled_ticks.proofs.last_reports.alone.Goals as goal

pub returns-clause-same : goal.returns-clause-same
returns-clause-same c = last_alone c.args.points.now c.args.at c.args.time c.requires.within c.requires.last
