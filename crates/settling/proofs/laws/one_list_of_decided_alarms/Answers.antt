use Rattle.settling.proofs.DecidedAlarms.{one_list_of_decided_alarms}
use Rattle.settling.proofs.laws.one_list_of_decided_alarms.Goals as goal

pub returns : goal.returns
returns c = one_list_of_decided_alarms
