use Rattle.settling.proofs.DecidedAlarms.{alarms_by_settled_ticks}
use Rattle.settling.proofs.laws.alarms_by_settled_ticks.Goals as goal

pub returns : goal.returns
returns c = alarms_by_settled_ticks
