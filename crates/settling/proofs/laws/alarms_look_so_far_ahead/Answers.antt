use Rattle.settling.proofs.SameAlarms.{same_alarm}
use Rattle.settling.proofs.laws.alarms_look_so_far_ahead.Goals as goal

pub returns : goal.returns
returns c = same_alarm
