-- There is one report.
use Rattle.std.proofs.Common.{ℕ, ◌≡◌, ◌<◌, Bool, true, false, List, ◌++◌, Option, Some, None, sym, ap, ap₂, subst, subst₂, ◌∙◌}
use Rattle.std.specs.Prelude.{flat_map}
use Rattle.std.specs.List.{AllPairs}
use Rattle.report_csv.specs.CsvRows.{row_of}
use Rattle.audit_report.specs.ReportRows.{no_plan_fields}
use Rattle.audit_rows.specs.declared.row.Row.{Row}
use Rattle.auditor.specs.declared.total.Total.{Total}
use Rattle.auditor.specs.AuditTotals.{AreTotals}
use Rattle.auditor.proofs.ForCallers.{one_list_of_rows, one_list_of_totals}
use Rattle.early_monitor.proofs.ForCallers.{one_list_of_alarms}
use Rattle.early_monitor.specs.declared.alarm.Alarm.{Alarm}
use Rattle.log_lines.specs.JudgedLines.{judged_lines}
use Rattle.log_lines.specs.LogLines.{lines_of}
use Rattle.audit_report.specs.AlarmRows.{alarm_rows}
use Rattle.audit_report.specs.OutcomeRows.{count_rows}
use Rattle.audit_report.specs.StretchRows.{stretch_rows}
use Rattle.scenario_values.specs.declared.values.Scenario.{Scenario}
use Rattle.sessions.specs.AuditReport.{IsAuditReport, rows_behind, sightings_of}
use Rattle.lattice.specs.Grids.{plans_of}
use Rattle.log_lines.specs.JudgedLines.{numbers_of}
use Rattle.refutations.specs.EntryRows.{entry_text}
use Rattle.laws.proofs.OneList.{one_list}
use Rattle.plan_situations.proofs.ForCallers.{situation_in_order}
use Rattle.plan_situations.specs.declared.situation.Situation.{Situation}
use Rattle.plan_situations.specs.declared.situation.Target.{Target}
use Rattle.plan_situations.specs.declared.readiness.Ready.{Ready}
use Rattle.scenario_values.specs.declared.own_part.OwnPart.{OwnPart}
use Rattle.sessions.specs.DrillReport.{IsDrillReport, drill_text}
use Rattle.sessions.specs.Endings.{IsEnding, IsReport}
use Rattle.sessions.specs.Tasks.{Task}
use Rattle.sessions.specs.PlanReport.{AreReasons, IsManoeuvre, IsOwn, IsPlanReport, log_messages, plan_text, situation_on}
use Rattle.sessions.specs.RecheckReport.{IsRecheckReport}
use Rattle.sessions.specs.WatchReport.{IsWatchReport}
use Rattle.sessions.proofs.ForCallers.{one_manoeuvre}
use Rattle.sessions.proofs.ForCallers.{one_own, one_ready}
use Rattle.tasks.specs.declared.mode.Mode.{Mode}
use Rattle.tasks.specs.declared.mode.Mode.TheVariants as mode
use Rattle.settling.specs.ScenarioAudit.{audit_numbers}

one_audit_report : (scenario : Scenario) (log text other : List ℕ) → IsAuditReport scenario log text → IsAuditReport scenario log other → text ≡ other
one_audit_report scenario log text other a b =
    let numbers = audit_numbers scenario in
    let ticks = sightings_of scenario log in
    let rows : a.rows ≡ b.rows = one_list_of_rows numbers ticks a.rows b.rows a.are_rows b.are_rows in
    let totals : a.totals ≡ b.totals =
    one_list_of_totals numbers ticks a.rows a.totals b.totals a.are_totals (subst (λ (rs : List Row). AreTotals numbers ticks rs b.totals) (sym rows) b.are_totals) in
    a.is
    ∙ ap₂ (λ (rs : List Row) (ts : List Total). stretch_rows scenario.rules rs ++ rows_behind scenario log ts) rows totals
    ∙ sym b.is

one_drill_report : (scenario : Scenario) (log text other : List ℕ) → IsDrillReport scenario log text → IsDrillReport scenario log other → text ≡ other
one_drill_report scenario log text other a b =
    let numbers = audit_numbers scenario in
    let ticks = sightings_of scenario log in
    let rows : a.rows ≡ b.rows = one_list_of_rows numbers ticks a.rows b.rows a.are_rows b.are_rows in
    let totals : a.totals ≡ b.totals =
    one_list_of_totals numbers ticks a.rows a.totals b.totals a.are_totals (subst (λ (rs : List Row). AreTotals numbers ticks rs b.totals) (sym rows) b.are_totals) in
    a.is ∙ ap (drill_text scenario log) totals ∙ sym b.is

-- Only one text says why every plan fails.
one_reasons : (why : Bool) (s : Situation) → AllPairs (λ (a b : Target). a.mmsi < b.mmsi) s.targets → (manoeuvre : Option (List ℕ)) (text other : List ℕ)
    → AreReasons why s manoeuvre text → AreReasons why s manoeuvre other → text ≡ other
one_reasons false s order manoeuvre text other a b = a ∙ sym b
one_reasons true s order (Some plan) text other a b = a ∙ sym b
one_reasons true s order None text other (entries, canonical, is) (entries', canonical', is') =
    is ∙ (ap (flat_map (entry_text s)) (one_list s order entries entries' canonical canonical') ∙ sym is')

one_plan_report : (why : Bool) (scenario : Scenario) (log text other : List ℕ) → IsPlanReport why scenario log text → IsPlanReport why scenario log other → text ≡ other
one_plan_report why scenario log text other a b =
    let own : a.own ≡ b.own = one_own scenario log a.own b.own a.ready b.ready a.is_own b.is_own in
    let b-own : IsOwn scenario log a.own b.ready = subst (λ (o : OwnPart). IsOwn scenario log o b.ready) (sym own) b.is_own in
    let ready : a.ready ≡ b.ready = one_ready scenario log a.own a.ready b.ready a.is_own b-own in
    let first : IsManoeuvre (situation_on scenario log a.own a.ready) b.manoeuvre =
    subst₂ (λ (o : OwnPart) (r : Ready). IsManoeuvre (situation_on scenario log o r) b.manoeuvre) (sym own) (sym ready) b.is_first in
    let manoeuvre : a.manoeuvre ≡ b.manoeuvre = one_manoeuvre (situation_on scenario log a.own a.ready) a.manoeuvre b.manoeuvre a.is_first first in
    let told : AreReasons why (situation_on scenario log a.own a.ready) b.manoeuvre b.reasons =
    subst₂ (λ (o : OwnPart) (r : Ready). AreReasons why (situation_on scenario log o r) b.manoeuvre b.reasons) (sym own) (sym ready) b.are_reasons in
    let same : AreReasons why (situation_on scenario log a.own a.ready) a.manoeuvre b.reasons =
    subst (λ (m : Option (List ℕ)). AreReasons why (situation_on scenario log a.own a.ready) m b.reasons) (sym manoeuvre) told in
    let order = situation_in_order (numbers_of scenario) (log_messages scenario log) scenario a.own a.ready in
    let reasons : a.reasons ≡ b.reasons = one_reasons why (situation_on scenario log a.own a.ready) order a.manoeuvre a.reasons b.reasons a.are_reasons same in
    a.is
    ∙ (ap₂ (λ (m : Option (List ℕ)) (r : List ℕ). plan_text scenario log a.own a.ready m ++ r) manoeuvre reasons
    ∙ (ap₂ (λ (o : OwnPart) (r : Ready). plan_text scenario log o r b.manoeuvre ++ b.reasons) own ready
    ∙ sym b.is))

one_recheck_report : (rows : List ℕ) (scenario : Scenario) (log text other : List ℕ) → IsRecheckReport rows scenario log text → IsRecheckReport rows scenario log other → text ≡ other
one_recheck_report rows scenario log text other a b =
    let own : a.own ≡ b.own = one_own scenario log a.own b.own a.ready b.ready a.is_own b.is_own in
    a.is ∙ (ap (λ (o : OwnPart). row_of (no_plan_fields (plans_of o.lattice))) own ∙ sym b.is)

one_watch_report : (scenario : Scenario) (log text other : List ℕ) → IsWatchReport scenario log text → IsWatchReport scenario log other → text ≡ other
one_watch_report scenario log text other a b =
    let same = one_list_of_alarms (audit_numbers scenario) (sightings_of scenario log) a.alarms b.alarms a.are_alarms b.are_alarms in
    a.is
    ∙ ap (λ (early : List Alarm). alarm_rows scenario.rules early ++ count_rows (judged_lines scenario (lines_of log))) same
    ∙ sym b.is

one_report : (m : Mode) (why : Bool) (rows : List ℕ) (scenario : Scenario) (log text other : List ℕ) → IsReport m why rows scenario log text
    → IsReport m why rows scenario log other → text ≡ other
one_report mode.Points why rows scenario log text other a b = a ∙ sym b
one_report mode.Audit why rows scenario log text other a b = one_audit_report scenario log text other a b
one_report mode.Plan why rows scenario log text other a b = one_plan_report why scenario log text other a b
one_report mode.Drill why rows scenario log text other a b = one_drill_report scenario log text other a b
one_report mode.Recheck why rows scenario log text other a b = one_recheck_report rows scenario log text other a b
one_report mode.Watch why rows scenario log text other a b = one_watch_report scenario log text other a b

pub one_ending : (task : Task) (scenario : Scenario) (log text other : List ℕ) → IsEnding task scenario log text → IsEnding task scenario log other → text ≡ other
one_ending task = one_report task.mode task.why task.rows
