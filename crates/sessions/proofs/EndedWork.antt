-- Work that ends.
use Rattle.std.proofs.Common.{ℕ, ◌≡◌, List, [], ◌∷◌, ◌++◌, sym, subst}
use Rattle.audit_report.specs.ReportTexts.{HasText}
use Rattle.audit_report.specs.declared.report_text.ReportText.{ReportText}
use Rattle.audit_rows.specs.declared.row.Row.{Row}
use Rattle.tasks.specs.declared.mode.Mode.TheVariants as mode
use Rattle.early_monitor.specs.declared.alarm.Alarm.{Alarm}
use Rattle.log_lines.specs.JudgedLines.{judged_lines}
use Rattle.log_lines.specs.LogLines.{lines_of}
use Rattle.log_lines.specs.Standing.{StandsFor as JudgeStandsFor}
use Rattle.log_lines.specs.declared.judge.Judge.{Judge}
use Rattle.audit_report.specs.AlarmRows.{alarm_rows}
use Rattle.audit_report.specs.OutcomeRows.{count_rows}
use Rattle.audit_report.specs.StretchRows.{stretch_rows}
use Rattle.scenario_values.specs.declared.values.Scenario.{Scenario}
use Rattle.settling.specs.declared.settled_audit.SettledAudit.{SettledAudit}
use Rattle.settling.specs.declared.settled_watch.SettledWatch.{SettledWatch}
use Rattle.sessions.specs.AuditReport.{IsAuditReport}
use Rattle.sessions.specs.Endings.{IsReport}
use Rattle.sessions.specs.Inner.AtEnd.{EndsWithReport, IsAtEnd, IsAuditAtEnd, IsAuditOf, IsWatchAtEnd, IsWatchOf}
use Rattle.sessions.specs.PlanReport.{IsPlanReport}
use Rattle.sessions.specs.PointsReport.{points_report}
use Rattle.sessions.specs.RecheckReport.{IsRecheckReport}
use Rattle.sessions.specs.WatchReport.{IsWatchReport}
use Rattle.sessions.specs.declared.asked.Asked.{Asked}
use Rattle.sessions.specs.declared.ending.Ending.{Ending}
use Rattle.sessions.specs.declared.work.Work.{Work}
use Rattle.sessions.specs.declared.work.Work.TheVariants as work
use Rattle.sessions.proofs.TakingLines.{points_whole}

-- of some log
abbrev pub AtSomeEnd : Work → Judge → Scenario → Type 0
AtSomeEnd w judge scenario = (log : List ℕ) × (given : List ℕ) × IsAtEnd w judge scenario log given

-- Where nothing is given in all, nothing was given before.
nothing_before : (given front : List ℕ) → given ++ front ≡ [] → given ≡ []
nothing_before [] front is = Rattle.std.proofs.Common.refl
nothing_before (byte ∷ given) front is = cc is

module _ (judge : Judge) (scenario : Scenario) where
  module _ (audit : SettledAudit) where
    pub audit_of : (log given : List ℕ) → IsAtEnd (work.Audit audit) judge scenario log given
        → (rows : List Row) × IsAuditOf audit judge scenario log rows × (given ≡ stretch_rows scenario.rules rows)
    audit_of log given at = (at.done.0.0, record { stands = at.done.1; judged = at.judged }, at.done.0.2)

    pub audit_here : AtSomeEnd (work.Audit audit) judge scenario → IsAuditAtEnd audit judge scenario
    audit_here at = let of = audit_of at.0 at.1 at.2 in record { log = at.0; given = of.0; is = of.1 }

    pub drill_of : (log given : List ℕ) → IsAtEnd (work.Drill audit) judge scenario log given → (rows : List Row) × IsAuditOf audit judge scenario log rows × (given ≡ [])
    drill_of log given at = (at.done.1.0, record { stands = at.done.1.1; judged = at.judged }, at.done.0)

    pub drill_here : AtSomeEnd (work.Drill audit) judge scenario → IsAuditAtEnd audit judge scenario
    drill_here at = let of = drill_of at.0 at.1 at.2 in record { log = at.0; given = of.0; is = of.1 }

  module _ (watch : SettledWatch) where
    pub watch_of : (log given : List ℕ) → IsAtEnd (work.Watch watch) judge scenario log given
        → (early : List Alarm) × IsWatchOf watch judge scenario log early × (given ≡ alarm_rows scenario.rules early)
    watch_of log given at = (at.done.0.0, record { stands = at.done.1; judged = at.judged }, at.done.0.2)

    pub watch_here : AtSomeEnd (work.Watch watch) judge scenario → IsWatchAtEnd watch judge scenario
    watch_here at = let of = watch_of at.0 at.1 at.2 in record { log = at.0; given = of.0; is = of.1 }

  pub judged_there : (w : Work) → AtSomeEnd w judge scenario → (log : List ℕ) × JudgeStandsFor judge scenario (lines_of log)
  judged_there w at = (at.0, at.2.judged)

  -- ---- the report of each kind of work

  module _ (asked : Asked) (text : ReportText) (ending : Ending) where
    pub points_reports : ((s : Scenario) (log front : List ℕ) → HasText text front → JudgeStandsFor judge s (lines_of log)
        → ending.bytes.items ≡ front ++ count_rows (judged_lines s (lines_of log))) → EndsWithReport work.Points judge scenario asked text ending
    unfolding points_report
    points_reports report log given front has at =
        points_whole (judged_lines scenario (lines_of log)) given front ending.bytes.items _ at.done.0 (report scenario log front has at.judged)

    pub audit_reports : (audit : SettledAudit) → ((log before front : List ℕ) (rows : List Row) → IsAuditOf audit judge scenario log rows
        → HasText text front → before ++ front ≡ stretch_rows scenario.rules rows → IsAuditReport scenario log (before ++ ending.bytes.items))
        → EndsWithReport (work.Audit audit) judge scenario asked text ending
    audit_reports audit report log given front has at = let of = audit_of audit log (given ++ front) at in report log given front of.0 of.1 has of.2

    pub watch_reports : (watch : SettledWatch) → ((log before front : List ℕ) (early : List Alarm) → IsWatchOf watch judge scenario log early
        → HasText text front → before ++ front ≡ alarm_rows scenario.rules early → IsWatchReport scenario log (before ++ ending.bytes.items))
        → EndsWithReport (work.Watch watch) judge scenario asked text ending
    watch_reports watch report log given front has at = let of = watch_of watch log (given ++ front) at in report log given front of.0 of.1 has of.2

    pub drill_reports : (audit : SettledAudit) → ((log : List ℕ) (rows : List Row) → IsAuditOf audit judge scenario log rows
        → IsReport mode.Drill asked.why asked.rows.now scenario log ending.bytes.items) → EndsWithReport (work.Drill audit) judge scenario asked text ending
    drill_reports audit report log given front has at =
        let of = drill_of audit log (given ++ front) at in
        subst (λ (g : List ℕ). IsReport mode.Drill asked.why asked.rows.now scenario log (g ++ ending.bytes.items)) (sym (nothing_before given front of.2)) (report log of.0 of.1)

    pub plan_reports : ((log : List ℕ) → JudgeStandsFor judge scenario (lines_of log) → IsPlanReport asked.why scenario log ending.bytes.items)
        → EndsWithReport work.Plan judge scenario asked text ending
    plan_reports report log given front has at =
        subst (λ (g : List ℕ). IsPlanReport asked.why scenario log (g ++ ending.bytes.items)) (sym (nothing_before given front at.done.0)) (report log at.judged)

    pub recheck_reports : ((log : List ℕ) → JudgeStandsFor judge scenario (lines_of log) → IsRecheckReport asked.rows.now scenario log ending.bytes.items)
        → EndsWithReport work.Recheck judge scenario asked text ending
    recheck_reports report log given front has at =
        subst (λ (g : List ℕ). IsRecheckReport asked.rows.now scenario log (g ++ ending.bytes.items)) (sym (nothing_before given front at.done.0)) (report log at.judged)
