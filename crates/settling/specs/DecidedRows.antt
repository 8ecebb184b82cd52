-- The rows of an audit that the lines of a log so far decide.
use Rattle.std.specs.Prelude.{ℕ, ◌+◌, ◌↔◌, List}
use Rattle.std.specs.List.{Contains}
use Rattle.audit_rows.specs.Order.{InOrder, last_step_of}
use Rattle.audit_rows.specs.declared.row.Row.{Row}
use Rattle.auditor.specs.AuditRows.{IsAuditRow}
use Rattle.auditor.specs.SettledRows.{audit_reach}
use Rattle.log_lines.specs.SentLines.{sent}
use Rattle.scenario_values.specs.declared.values.Scenario.{Scenario}
use Rattle.settled_ticks.specs.Settled.{IsSettled}
use Rattle.settled_ticks.specs.Sightings.{sighted}
use Rattle.settling.specs.ScenarioAudit.{audit_numbers}

-- They are the rows by the messages so far, once the tick `last step + greatest reach of a rule + 2` is settled: one
-- more position shows that the stretch has ended, and a position ends at the next tick.
pub record AreDecided (scenario : Scenario) (lines : List (List ℕ)) (rows : List Row) : Type 0 where
  pub each : (row : Row) → Contains rows row
      ↔ (IsAuditRow (audit_numbers scenario) (sighted scenario (sent scenario lines)) row × IsSettled scenario lines (last_step_of row + audit_reach (audit_numbers scenario) + 2))
  pub ordered : InOrder rows
