use Rattle.early_monitor.proofs.OneAlarm.{one_alarm, some_alarm}
use Rattle.early_monitor.proofs.laws.each_breach_has_one_alarm.Goals as goal

pub returns-clause-some : goal.returns-clause-some
returns-clause-some c = some_alarm

pub returns-clause-one : goal.returns-clause-one
returns-clause-one c = one_alarm
