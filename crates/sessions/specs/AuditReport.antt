-- The report of `audit`: the meetings and the verdicts in their order, the vessels, what each rule comes to, and then how many lines
-- came to each outcome.
use Rattle.std.specs.Prelude.{ℕ, ◌≡◌, List, ◌++◌}
use Rattle.audit_rows.specs.declared.row.Row.{Row}
use Rattle.traces.specs.Audited.{Sighting}
use Rattle.auditor.specs.declared.total.Total.{Total}
use Rattle.auditor.specs.AuditRows.{AreAuditRows}
use Rattle.auditor.specs.AuditTotals.{AreTotals}
use Rattle.log_lines.specs.JudgedLines.{judged_lines, numbers_of}
use Rattle.log_lines.specs.LogLines.{lines_of}
use Rattle.log_lines.specs.SentLines.{sent}
use Rattle.scenario_values.specs.declared.values.Scenario.{Scenario}
use Rattle.settled_ticks.specs.Sightings.{sighted}
use Rattle.settling.specs.ScenarioAudit.{audit_numbers}
use Rattle.audit_report.specs.OutcomeRows.{count_rows}
use Rattle.audit_report.specs.StretchRows.{stretch_rows}
use Rattle.audit_report.specs.TotalRows.{total_rows}
use Rattle.audit_report.specs.VesselRows.{vessel_rows}

-- ---- what is audited

-- the vessels that are seen at each tick of the window, by a log
unfoldable pub sightings_of : Scenario → List ℕ → List Sighting
sightings_of scenario log = sighted scenario (sent scenario (lines_of log))

-- ---- the report

-- the rows that are not those of stretches
unfoldable pub rows_behind : Scenario → List ℕ → List Total → List ℕ
rows_behind scenario log totals =
    vessel_rows (numbers_of scenario) (sent scenario (lines_of log)) ++ total_rows scenario.rules totals
    ++ count_rows (judged_lines scenario (lines_of log))

-- The text is the report on a log.
pub record IsAuditReport (scenario : Scenario) (log text : List ℕ) : Type 0 where
  pub rows : List Row
  pub totals : List Total
  pub are_rows : AreAuditRows (audit_numbers scenario) (sightings_of scenario log) rows
  pub are_totals : AreTotals (audit_numbers scenario) (sightings_of scenario log) rows totals
  pub is : text ≡ stretch_rows scenario.rules rows ++ rows_behind scenario log totals
