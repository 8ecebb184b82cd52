use Rattle.early_monitor.specs.Inner.Breaches.{alarm_at}
use Rattle.early_monitor.proofs.Alarms.{one_more_alarm}
use Rattle.early_monitor.proofs.alarm_set.add_alarm.Goals as goal

pub returns : goal.returns
returns c = one_more_alarm c.args.alarms.now c.insert.new.self (alarm_at c.args.place c.args.position) c.in_ok-insert.ensures.updates.0
