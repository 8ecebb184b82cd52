-- The alarms that the lines of a log so far decide.
use Rattle.std.specs.Prelude.{ℕ, ◌+◌, ◌↔◌, List}
use Rattle.std.specs.List.{Contains}
use Rattle.early_monitor.specs.Alarms.{InOrder, IsAlarm}
use Rattle.early_monitor.specs.declared.alarm.Alarm.{Alarm}
use Rattle.log_lines.specs.SentLines.{sent}
use Rattle.scenario_values.specs.declared.values.Scenario.{Scenario}
use Rattle.settled_ticks.specs.Settled.{IsSettled}
use Rattle.settled_ticks.specs.Sightings.{sighted}
use Rattle.settling.specs.ScenarioAudit.{audit_numbers}

-- They are the alarms by the messages so far whose deciding step ends at a settled tick. No reach matters in addition.
pub record AreDecidedAlarms (scenario : Scenario) (lines : List (List ℕ)) (alarms : List Alarm) : Type 0 where
  pub each : (alarm : Alarm) → Contains alarms alarm
      ↔ (IsAlarm (audit_numbers scenario) (sighted scenario (sent scenario lines)) alarm × IsSettled scenario lines (alarm.decided + 1))
  pub ordered : InOrder alarms
