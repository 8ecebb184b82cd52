use Rattle.settling.proofs.DecidedAlarms.{decided_alarms_are_a_front}
use Rattle.settling.proofs.laws.decided_alarms_are_a_front.Goals as goal

pub returns : goal.returns
returns c = decided_alarms_are_a_front
