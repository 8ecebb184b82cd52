use Rattle.std.proofs.Common.{◌≡◌, Some}
use Rattle.std.proofs.lemmas.Result.{on_ok_weaker}
use Rattle.early_monitor.specs.Inner.Breaches.{Tells, alarm_at}
use Rattle.early_monitor.specs.declared.alarm.Alarm.{Alarm}
use Rattle.early_monitor.proofs.Breaches.{adds_same, told}
use Rattle.early_monitor.proofs.alarm_set.take_value.Goals as goal

pub returns-in-No : goal.returns-in-No
returns-in-No c =
    on_ok_weaker c.add_alarm.result
    (λ added. adds_same (λ (a : Alarm). a ≡ alarm_at c.args.place c.args.position) (Tells (Some (c.args.position, c.args.value)) c.args.place) c.args.alarms.now.keys c.add_alarm.new.alarms.keys
    (told c.args.place c.args.position c.args.value c.in-No.is) added)
    c.add_alarm.ensures
