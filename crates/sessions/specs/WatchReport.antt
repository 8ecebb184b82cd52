-- The report of `watch`: the alarms in their order, and then how many lines came to each outcome.
use Rattle.std.specs.Prelude.{ℕ, ◌≡◌, List, ◌++◌}
use Rattle.early_monitor.specs.Alarms.{AreAlarms}
use Rattle.early_monitor.specs.declared.alarm.Alarm.{Alarm}
use Rattle.log_lines.specs.JudgedLines.{judged_lines}
use Rattle.log_lines.specs.LogLines.{lines_of}
use Rattle.scenario_values.specs.declared.values.Scenario.{Scenario}
use Rattle.sessions.specs.AuditReport.{sightings_of}
use Rattle.audit_report.specs.AlarmRows.{alarm_rows}
use Rattle.audit_report.specs.OutcomeRows.{count_rows}
use Rattle.settling.specs.ScenarioAudit.{audit_numbers}

-- The text is the report on a log.
pub record IsWatchReport (scenario : Scenario) (log text : List ℕ) : Type 0 where
  pub alarms : List Alarm
  pub are_alarms : AreAlarms (audit_numbers scenario) (sightings_of scenario log) alarms
  pub is : text ≡ alarm_rows scenario.rules alarms ++ count_rows (judged_lines scenario (lines_of log))
