use Rattle.drill_log.proofs.Reports.{all_reports}
use Rattle.drill_log.proofs.laws.reports_are_of_forty_ships.Goals as goal

pub returns : goal.returns
returns c = all_reports
