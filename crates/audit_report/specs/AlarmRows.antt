-- The rows of alarms.
use Rattle.std.specs.Prelude.{ℕ, flat_map, List}
use Rattle.report_csv.specs.CsvRows.{row_of, Fields}
use Rattle.audit_report.specs.ReportRows.{alarm_fields}
use Rattle.early_monitor.specs.declared.alarm.Alarm.{Alarm}
use Rattle.rule_set.specs.NamedTrees.{NamedTree, rule_at}

-- the row of an alarm
abbrev pub told_alarm : List NamedTree → Alarm → Fields
told_alarm rules alarm = alarm_fields alarm.pair (rule_at rules alarm.rule).name alarm.position alarm.decided

abbrev pub alarm_rows : List NamedTree → List Alarm → List ℕ
alarm_rows rules alarms = flat_map (λ a. row_of (told_alarm rules a)) alarms
