use Rattle.settling.proofs.DecidedAlarms.{decided_alarms_begin_the_report}
use Rattle.settling.proofs.laws.decided_alarms_begin_the_report.Goals as goal

pub returns : goal.returns
returns c = decided_alarms_begin_the_report
