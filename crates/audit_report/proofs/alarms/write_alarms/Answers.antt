use Rattle.std.proofs.Common.{List, ◌++◌, subst}
use Rattle.std.proofs.lemmas.List.{take_all}
use Rattle.audit_report.specs.ReportTexts.{HasText}
use Rattle.early_monitor.specs.declared.alarm.Alarm.{Alarm}
use Rattle.audit_report.specs.AlarmRows.{alarm_rows}
use Rattle.audit_report.proofs.AlarmRows.{one_alarm_on}
use Rattle.audit_report.proofs.alarms.write_alarms.Goals as goal

pub loop-alarm-preserved : goal.loop-alarm-preserved
loop-alarm-preserved c = λ front has.
    one_alarm_on c.write_alarm.new.text front c.args.rules.now c.args.alarms.now c.loop-alarm.alarm-index _ c.loop-alarm-test.true
    (c.in_ok-write_alarm.ensures _ (c.loop-alarm.invariant front has))

pub returns : goal.returns
returns c = λ front has.
    subst (λ (early : List Alarm). HasText c.loop-alarm.text (front ++ alarm_rows c.args.rules.now early))
    (take_all c.loop-alarm.alarm-index c.args.alarms.now c.loop-alarm-test.false) (c.loop-alarm.invariant front has)
