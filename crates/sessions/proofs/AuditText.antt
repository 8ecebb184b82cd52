-- The whole report of an audit, and why there is none.
use Rattle.std.proofs.Common.{[], ℕ, ◌≡◌, ◌++◌, false, refl, List, append_assoc, ap, ◌∙◌}
use Rattle.audit_rows.specs.declared.row.Row.{Row}
use Rattle.auditor.specs.declared.total.Total.{Total}
use Rattle.traces.specs.ManyTraces.{HaveMoreThan}
use Rattle.log_lines.specs.JudgedLines.{is_crowded, numbers_of}
use Rattle.log_lines.specs.LogLines.{lines_of}
use Rattle.scenario_values.specs.declared.values.Scenario.{Scenario}
use Rattle.tracks.specs.VesselsHeld.{Sent}
use Rattle.sessions.specs.AuditReport.{sightings_of}
use Rattle.audit_report.specs.StretchRows.{stretch_rows}
use Rattle.audit_report.specs.TotalRows.{total_rows}
use Rattle.audit_report.specs.VesselRows.{vessel_rows}
use Rattle.traces.specs.declared.all_traces.TheConstants.{MOST_TRACES}
use Rattle.traces.specs.declared.fault.TickFault.{TickFault as AuditFault}
use Rattle.traces.specs.declared.fault.TickFault.TheVariants as audit
use Rattle.sessions.specs.Inner.Faults.{EndCause, auditing_fault}
use Rattle.sessions.proofs.Meeting.{pairs_answer}
use Rattle.tasks.specs.declared.mode.Mode.TheVariants as mode
use Rattle.settling.specs.ScenarioAudit.{audit_numbers}

pub audit_cause : (scenario : Scenario) (log : List ℕ) (fault : AuditFault) → is_crowded scenario (lines_of log) ≡ false
    → (fault ≡ audit.TooManyPairs → HaveMoreThan MOST_TRACES (audit_numbers scenario) (sightings_of scenario log)) → EndCause mode.Audit [] scenario log (auditing_fault fault)
audit_cause scenario log audit.TooManyPairs calm many = pairs_answer mode.Audit [] scenario log calm (many refl)
audit_cause scenario log audit.Memory calm many = tt

pub drill_cause : (scenario : Scenario) (log : List ℕ) (fault : AuditFault) → is_crowded scenario (lines_of log) ≡ false
    → (fault ≡ audit.TooManyPairs → HaveMoreThan MOST_TRACES (audit_numbers scenario) (sightings_of scenario log)) → EndCause mode.Drill [] scenario log (auditing_fault fault)
drill_cause scenario log audit.TooManyPairs calm many = pairs_answer mode.Drill [] scenario log calm (many refl)
drill_cause scenario log audit.Memory calm many = tt

-- the rows one after the other, behind what stands in the text
pub whole_text : (scenario : Scenario) (messages : List Sent) (front : List ℕ) (rows : List Row) (totals totals' : List Total) (counts : List ℕ) → totals ≡ totals'
    → (((front ++ stretch_rows scenario.rules rows) ++ vessel_rows (numbers_of scenario) messages) ++ total_rows scenario.rules totals) ++ counts
    ≡ front ++ (stretch_rows scenario.rules rows ++ (vessel_rows (numbers_of scenario) messages ++ total_rows scenario.rules totals' ++ counts))
whole_text scenario messages front rows totals totals' counts same =
    let s = stretch_rows scenario.rules rows in
    let v = vessel_rows (numbers_of scenario) messages in
    let t = total_rows scenario.rules totals in
    ap (λ (l : List ℕ). l ++ counts) (append_assoc (front ++ s) v t)
    ∙ append_assoc (front ++ s) (v ++ t) counts
    ∙ append_assoc front s ((v ++ t) ++ counts)
    ∙ ap (λ (ts : List Total). front ++ (s ++ (v ++ total_rows scenario.rules ts ++ counts))) same
