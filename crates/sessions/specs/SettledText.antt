-- What a front of a log already decides of the report.
use Rattle.std.specs.Prelude.{ℕ, ◌≡◌, List, []}
use Rattle.audit_rows.specs.declared.row.Row.{Row}
use Rattle.early_monitor.specs.declared.alarm.Alarm.{Alarm}
use Rattle.log_lines.specs.GrowingLog.{ended_lines}
use Rattle.log_lines.specs.JudgedLines.{judged_lines}
use Rattle.scenario_values.specs.declared.values.Scenario.{Scenario}
use Rattle.settling.specs.DecidedAlarms.{AreDecidedAlarms}
use Rattle.settling.specs.DecidedRows.{AreDecided}
use Rattle.tasks.specs.declared.mode.Mode.{Mode}
use Rattle.audit_report.specs.AlarmRows.{alarm_rows}
use Rattle.audit_report.specs.PointRows.{point_rows}
use Rattle.audit_report.specs.StretchRows.{stretch_rows}
use Rattle.tasks.specs.Modes.{Focus, alarms, each_line, each_tick, early_focus, stretches}

-- The text that lines decide, whatever follows them: of lines by themselves the rows of their accepted reports, of ticks those of the stretches that
-- no later line can change, or of the alarms, and nothing where nothing leaves before the end.
abbrev pub IsDecidedBy : Focus → Scenario → List (List ℕ) → List ℕ → Type 0
IsDecidedBy each_line scenario lines text = text ≡ point_rows (judged_lines scenario lines)
IsDecidedBy (each_tick stretches) scenario lines text = (rows : List Row) × AreDecided scenario lines rows × (text ≡ stretch_rows scenario.rules rows)
IsDecidedBy (each_tick alarms) scenario lines text = (early : List Alarm) × AreDecidedAlarms scenario lines early × (text ≡ alarm_rows scenario.rules early)
IsDecidedBy _ scenario lines text = text ≡ []

abbrev pub IsDecidedText : Mode → Scenario → List (List ℕ) → List ℕ → Type 0
IsDecidedText mode = IsDecidedBy (early_focus mode)

-- The settled bytes of a front: what its lines decide that a line feed has ended.
abbrev pub IsSettledText : Mode → Scenario → List ℕ → List ℕ → Type 0
IsSettledText mode scenario front text = IsDecidedText mode scenario (ended_lines front) text
