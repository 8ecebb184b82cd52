-- That a front of a log settles no text is refuted.
use Rattle.std.proofs.Common.{ℕ, ◌+◌, List, [], refl}
use Rattle.audit_rows.specs.declared.row.Row.{Row}
use Rattle.auditor.specs.AuditRows.{IsAuditRow}
use Rattle.auditor.specs.SettledRows.{audit_reach}
use Rattle.audit_rows.specs.Order.{last_step_of}
use Rattle.early_monitor.specs.Alarms.{IsAlarm}
use Rattle.early_monitor.specs.declared.alarm.Alarm.{Alarm}
use Rattle.log_lines.specs.GrowingLog.{ended_lines}
use Rattle.log_lines.specs.JudgedLines.{judged_lines}
use Rattle.log_lines.specs.SentLines.{sent}
use Rattle.audit_report.specs.AlarmRows.{alarm_rows}
use Rattle.audit_report.specs.PointRows.{point_rows}
use Rattle.audit_report.specs.StretchRows.{stretch_rows}
use Rattle.scenario_values.specs.declared.values.Scenario.{Scenario}
use Rattle.sessions.specs.SettledText.{IsDecidedBy, IsSettledText}
use Rattle.settled_ticks.specs.Settled.{IsSettled}
use Rattle.settled_ticks.specs.Sightings.{sighted}
use Rattle.settling.specs.DecidedAlarms.{AreDecidedAlarms}
use Rattle.settling.specs.DecidedRows.{AreDecided}
use Rattle.settling.specs.ScenarioAudit.{audit_numbers}
use Rattle.tasks.specs.declared.mode.Mode.{Mode}
use Rattle.tasks.specs.Modes.{Focus, alarms, each_line, each_tick, early_focus, nothing, own_ship, stretches}
use Rattle.laws.proofs.SomeAlarms.{some_alarms_with}
use Rattle.laws.proofs.SomeAuditRows.{some_rows_with}

module _ (scenario : Scenario) (lines : List (List ℕ)) where
  abbrev IsDecidedRow : Row → Type 0
  IsDecidedRow row =
      IsAuditRow (audit_numbers scenario) (sighted scenario (sent scenario lines)) row × IsSettled scenario lines (last_step_of row + audit_reach (audit_numbers scenario) + 2)

  abbrev IsDecidedAlarm : Alarm → Type 0
  IsDecidedAlarm alarm = IsAlarm (audit_numbers scenario) (sighted scenario (sent scenario lines)) alarm × IsSettled scenario lines (alarm.decided + 1)

  some_decided_rows : ¬ ((rows : List Row) → ¬ AreDecided scenario lines rows)
  some_decided_rows none = some_rows_with (audit_numbers scenario) (sighted scenario (sent scenario lines)) IsDecidedRow (λ row is. is.0) (λ all.
      none all.items (record { each = λ row. (all.sound row, all.complete row); ordered = all.ordered }))

  some_decided_alarms : ¬ ((early : List Alarm) → ¬ AreDecidedAlarms scenario lines early)
  some_decided_alarms none = some_alarms_with (audit_numbers scenario) (sighted scenario (sent scenario lines)) IsDecidedAlarm (λ alarm is. is.0) (λ all.
      none all.alarms (record { each = λ alarm. (all.sound alarm, all.complete alarm); ordered = all.ordered }))

  some_decided_by : (focus : Focus) → ¬ ((text : List ℕ) → ¬ IsDecidedBy focus scenario lines text)
  some_decided_by each_line none = none (point_rows (judged_lines scenario lines)) refl
  some_decided_by (each_tick stretches) none = some_decided_rows (λ rows are. none (stretch_rows scenario.rules rows) (rows, are, refl))
  some_decided_by (each_tick alarms) none = some_decided_alarms (λ early are. none (alarm_rows scenario.rules early) (early, are, refl))
  some_decided_by own_ship none = none [] refl
  some_decided_by nothing none = none [] refl

pub some_settled_text : (m : Mode) (scenario : Scenario) (front : List ℕ) → ¬ ((text : List ℕ) → ¬ IsSettledText m scenario front text)
some_settled_text m scenario front = some_decided_by scenario (ended_lines front) (early_focus m)
