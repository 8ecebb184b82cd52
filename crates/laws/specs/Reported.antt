-- The rows of a report of `audit`.
use Rattle.std.specs.Prelude.{ℕ, List}
use Rattle.meetings.specs.declared.pair.Pair.{Pair}
use Rattle.audit_rows.specs.declared.row.Row.{Row}
use Rattle.audit_rows.specs.declared.row.Row.TheVariants as row
use Rattle.auditor.specs.AuditRows.{AreAuditRows, IsAuditRow}
use Rattle.scenario_values.specs.declared.values.Scenario.{Scenario}
use Rattle.sessions.specs.AuditReport.{sightings_of}
use Rattle.settling.specs.ScenarioAudit.{audit_numbers}

-- They are the meetings and verdicts of the report on a log, in its order.
abbrev pub AreReported : Scenario → List ℕ → List Row → Type 0
AreReported scenario log rows = AreAuditRows (audit_numbers scenario) (sightings_of scenario log) rows

-- The row is one of them.
abbrev pub IsReported : Scenario → List ℕ → Row → Type 0
IsReported scenario log row = IsAuditRow (audit_numbers scenario) (sightings_of scenario log) row

-- the ordered pair that a row is about
abbrev pub pair_of : Row → Pair
pair_of (row.Meeting pair kind first last least) = pair
pair_of (row.Verdict pair rule undecided first last) = pair
