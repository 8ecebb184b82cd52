use Rattle.std.proofs.Common.{ℕ, List, ◌++◌, take}
use Rattle.audit_report.specs.ReportTexts.{HasText}
use Rattle.audit_report.specs.AlarmRows.{alarm_rows}
use Rattle.audit_report.proofs.alarms.write_alarms.Given as goal

-- the rows so far were added
abbrev pub invariant-loop-alarm : goal.invariant-loop-alarm
invariant-loop-alarm l = (front : List ℕ) → HasText l.initial.text front → HasText l.text (front ++ alarm_rows l.rules (take l.alarm-index l.alarms))
