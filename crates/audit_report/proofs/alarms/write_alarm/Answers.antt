use Rattle.audit_report.proofs.alarms.write_alarm.Goals as goal

pub returns : goal.returns
returns c = rw c.name.ensures.name at c.write.ensures
