-- The report of `drill`: of the audit of its log what each rule comes to, and then how many lines came to each outcome.
use Rattle.std.specs.Prelude.{ℕ, ◌≡◌, List, ◌++◌}
use Rattle.audit_rows.specs.declared.row.Row.{Row}
use Rattle.auditor.specs.declared.total.Total.{Total}
use Rattle.auditor.specs.AuditRows.{AreAuditRows}
use Rattle.auditor.specs.AuditTotals.{AreTotals}
use Rattle.log_lines.specs.JudgedLines.{judged_lines}
use Rattle.log_lines.specs.LogLines.{lines_of}
use Rattle.scenario_values.specs.declared.values.Scenario.{Scenario}
use Rattle.audit_report.specs.OutcomeRows.{count_rows}
use Rattle.audit_report.specs.TotalRows.{total_rows}
use Rattle.sessions.specs.AuditReport.{sightings_of}
use Rattle.settling.specs.ScenarioAudit.{audit_numbers}

-- the rows, by the totals of the audit
unfoldable pub drill_text : Scenario → List ℕ → List Total → List ℕ
drill_text scenario log totals = total_rows scenario.rules totals ++ count_rows (judged_lines scenario (lines_of log))

-- The text is the report on a log.
pub record IsDrillReport (scenario : Scenario) (log text : List ℕ) : Type 0 where
  pub rows : List Row
  pub totals : List Total
  pub are_rows : AreAuditRows (audit_numbers scenario) (sightings_of scenario log) rows
  pub are_totals : AreTotals (audit_numbers scenario) (sightings_of scenario log) rows totals
  pub is : text ≡ drill_text scenario log totals
