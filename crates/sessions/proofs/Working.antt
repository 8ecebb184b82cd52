-- Work that goes on by one line.
use Rattle.std.proofs.Common.{ℕ, ◌≡◌, false, List, [], ◌++◌, append-nil, refl, sym, ap, ◌∙◌, subst, arith}
use Rattle.std.proofs.lemmas.Grind.{flat_map-append}
use Rattle.report_csv.specs.CsvRows.{row_of}
use Rattle.audit_report.specs.ReportTexts.{HasText}
use Rattle.audit_report.specs.declared.report_text.ReportText.{ReportText}
use Rattle.audit_rows.specs.declared.row.Row.{Row}
use Rattle.early_monitor.specs.declared.alarm.Alarm.{Alarm}
use Rattle.log_lines.specs.EachLine.{each_after}
use Rattle.log_lines.specs.GrowingLog.{ended_lines}
use Rattle.log_lines.specs.JudgedLines.{is_crowded, judged_lines}
use Rattle.log_lines.specs.Standing.{StandsFor as JudgeStandsFor, keeping_of}
use Rattle.log_lines.specs.declared.judge.Judge.{Judge}
use Rattle.log_lines.specs.declared.judged.Judged.{Judged}
use Rattle.log_lines.proofs.ForCallers.{nothing_judged}
use Rattle.scenario_values.specs.declared.values.Scenario.{Scenario}
use Rattle.settling.specs.DecidedAlarms.{AreDecidedAlarms}
use Rattle.settling.specs.DecidedRows.{AreDecided}
use Rattle.settling.specs.ManySettled.{HaveManySettled}
use Rattle.settled_ticks.specs.Standing.{RemembersTicks, latest_time}
use Rattle.settling.specs.Standing.{StandsFor as AuditStandsFor, audited_ticks}
use Rattle.settling.specs.WatchStanding.{StandsFor as WatchStandsFor, watched_ticks}
use Rattle.settling.specs.declared.settled_audit.SettledAudit.{SettledAudit}
use Rattle.settling.specs.declared.settled_watch.SettledWatch.{SettledWatch}
use Rattle.settling.proofs.ForCallers.{few_settled, few_watched, none_decided, no_alarms_decided, none_many}
use Rattle.tasks.specs.declared.mode.Mode.{Mode}
use Rattle.tasks.specs.Modes.{Focus, OfTicks, alarms, each_line, each_tick, early_focus, focus_of, nothing, own_ship, stretches}
use Rattle.audit_report.specs.AlarmRows.{alarm_rows, told_alarm}
use Rattle.audit_report.specs.PointRows.{point_rows, rows_of_line}
use Rattle.audit_report.specs.StretchRows.{stretch_fields, stretch_rows}
use Rattle.sessions.specs.Refusals.{HasManySettled, IsUnrefused}
use Rattle.sessions.specs.SettledText.{IsDecidedBy, IsDecidedText, IsSettledText}
use Rattle.tracks.proofs.ForCallers.{remembers_forgetting}
use Rattle.tracks.specs.Standing.{forgetting}
use Rattle.tracks.specs.declared.keeping.Keeping.{Keeping}
use Rattle.tracks.specs.declared.keeping.Keeping.TheVariants.{Latest, Tracks}
use Rattle.sessions.specs.Standing.{KeepsEnough, keeping_by, mode_by}
use Rattle.sessions.specs.Inner.Working.{GoesOn, IsDone}
use Rattle.sessions.specs.declared.work.Work.{Work}
use Rattle.sessions.specs.declared.work.Work.TheVariants as work
use Rattle.traces.specs.declared.fault.TickFault.{TickFault as AuditFault}
use Rattle.traces.specs.declared.fault.TickFault.TheVariants as audit_fault
use Rattle.sessions.specs.Inner.Faults.{auditing_fault}
use Rattle.sessions.specs.declared.session_fault.SessionFault.TheVariants as why
use Rattle.sessions.proofs.TakingLines.{rows_push}

-- ---- before the first line

no_points : (scenario : Scenario) → [] ≡ point_rows (judged_lines scenario [])
no_points scenario = ap point_rows (sym (nothing_judged scenario))

nothing_ended : ended_lines [] ≡ []
unfolding ended_lines
nothing_ended = refl

nothing_decided : (focus : Focus) (scenario : Scenario) → IsDecidedBy focus scenario [] []
nothing_decided each_line scenario = no_points scenario
nothing_decided (each_tick stretches) scenario = ([], none_decided scenario, refl)
nothing_decided (each_tick alarms) scenario = ([], no_alarms_decided scenario, refl)
nothing_decided own_ship scenario = refl
nothing_decided nothing scenario = refl

pub nothing_settled : (m : Mode) (scenario : Scenario) → IsSettledText m scenario [] []
nothing_settled m scenario = subst (λ (lines : List (List ℕ)). IsDecidedText m scenario lines []) (sym nothing_ended) (nothing_decided (early_focus m) scenario)

none_crowded : (scenario : Scenario) → is_crowded scenario [] ≡ false
unfolding is_crowded each_after
none_crowded scenario = refl

none_too_many : (focus : Focus) (scenario : Scenario) → OfTicks focus (HaveManySettled scenario []) → ⊥
none_too_many each_line scenario many = many
none_too_many (each_tick told) scenario many = none_many scenario many
none_too_many own_ship scenario many = many
none_too_many nothing scenario many = many

pub nothing_refused : (m : Mode) (scenario : Scenario) → IsUnrefused m scenario []
nothing_refused m scenario = record {
  short = omega arith;
  calm = ap (is_crowded scenario) nothing_ended ∙ none_crowded scenario;
  few = λ many. none_too_many (focus_of m) scenario (subst (HasManySettled m scenario) nothing_ended many);
}

pub points_begun : (scenario : Scenario) → IsDone work.Points scenario [] []
points_begun scenario = (no_points scenario, tt)

pub audit_begun : (scenario : Scenario) (audit : SettledAudit) → AuditStandsFor audit scenario [] [] → IsDone (work.Audit audit) scenario [] []
audit_begun scenario audit stands = (([], none_decided scenario, refl), stands)

pub drill_begun : (scenario : Scenario) (audit : SettledAudit) → AuditStandsFor audit scenario [] [] → IsDone (work.Drill audit) scenario [] []
drill_begun scenario audit stands = (refl, ([], stands))

pub watch_begun : (scenario : Scenario) (watch : SettledWatch) → WatchStandsFor watch scenario [] [] → IsDone (work.Watch watch) scenario [] []
watch_begun scenario watch stands = (([], no_alarms_decided scenario, refl), stands)

pub begun_ended : (work : Work) (scenario : Scenario) → IsDone work scenario [] [] → IsDone work scenario (ended_lines []) []
begun_ended work scenario done = subst (λ (lines : List (List ℕ)). IsDone work scenario lines []) (sym nothing_ended) done

-- ---- what was done

pub few_by : (work : Work) (scenario : Scenario) (lines : List (List ℕ)) (given : List ℕ) → IsDone work scenario lines given → HasManySettled (mode_by work) scenario lines → ⊥
few_by work.Points scenario lines given done many = many
few_by (work.Audit audit) scenario lines given (decided, stands) many = few_settled scenario audit lines decided.0 stands many
few_by work.Plan scenario lines given done many = many
few_by (work.Drill audit) scenario lines given (decided, audited) many = few_settled scenario audit lines audited.0 audited.1 many
few_by work.Recheck scenario lines given done many = many
few_by (work.Watch watch) scenario lines given (decided, stands) many = few_watched scenario watch lines decided.0 stands many

-- ---- one line more

pub points_go_on : (scenario : Scenario) (judge : Judge) (judged : Judged) (front : List ℕ) (text : ReportText) → HasText text (front ++ rows_of_line judged)
    → keeping_of judge ≡ Latest → GoesOn work.Points work.Points scenario judge judged front text
points_go_on scenario judge judged front text has keeps = record {
  decided = rows_of_line judged;
  has = has;
  keeps = keeps;
  done = λ lines more given done stands is. (ap (λ (g : List ℕ). g ++ rows_of_line judged) done.0 ∙ sym (rows_push (judged_lines scenario lines) judged) ∙ ap point_rows (sym is), tt);
}

stretches_more : (scenario : Scenario) (given : List ℕ) (rows further : List Row) → given ≡ stretch_rows scenario.rules rows
    → given ++ stretch_rows scenario.rules further ≡ stretch_rows scenario.rules (rows ++ further)
stretches_more scenario given rows further is =
    ap (λ (g : List ℕ). g ++ stretch_rows scenario.rules further) is ∙ sym (flat_map-append (λ (r : Row). row_of (stretch_fields scenario.rules r)) rows further)

pub audit_goes_on : (scenario : Scenario) (judge : Judge) (judged : Judged) (front : List ℕ) (text : ReportText) (audit audit' : SettledAudit) (further : List Row)
    → ((lines more : List (List ℕ)) (given : List Row) → AuditStandsFor audit scenario lines given → JudgeStandsFor judge scenario (lines ++ more) → AuditStandsFor audit' scenario (lines ++ more) (given ++ further))
    → ((lines more : List (List ℕ)) (given : List Row) → AuditStandsFor audit scenario lines given → JudgeStandsFor judge scenario (lines ++ more) → AreDecided scenario (lines ++ more) (given ++ further))
    → RemembersTicks (keeping_of judge) scenario (audited_ticks audit') → HasText text (front ++ stretch_rows scenario.rules further) → GoesOn (work.Audit audit) (work.Audit audit') scenario judge judged front text
audit_goes_on scenario judge judged front text audit audit' further stand decide keeps has = record {
  decided = stretch_rows scenario.rules further;
  has = has;
  keeps = keeps;
  done = λ lines more given done judged is. (
    (done.0.0 ++ further, decide lines more done.0.0 done.1 judged, stretches_more scenario given done.0.0 further done.0.2),
    stand lines more done.0.0 done.1 judged,
  );
}

alarms_more : (scenario : Scenario) (given : List ℕ) (early further : List Alarm) → given ≡ alarm_rows scenario.rules early
    → given ++ alarm_rows scenario.rules further ≡ alarm_rows scenario.rules (early ++ further)
alarms_more scenario given early further is =
    ap (λ (g : List ℕ). g ++ alarm_rows scenario.rules further) is ∙ sym (flat_map-append (λ (a : Alarm). row_of (told_alarm scenario.rules a)) early further)

pub watch_goes_on : (scenario : Scenario) (judge : Judge) (judged : Judged) (front : List ℕ) (text : ReportText) (watch watch' : SettledWatch) (further : List Alarm)
    → ((lines more : List (List ℕ)) (given : List Alarm) → WatchStandsFor watch scenario lines given → JudgeStandsFor judge scenario (lines ++ more) → WatchStandsFor watch' scenario (lines ++ more) (given ++ further))
    → ((lines more : List (List ℕ)) (given : List Alarm) → WatchStandsFor watch scenario lines given → JudgeStandsFor judge scenario (lines ++ more) → AreDecidedAlarms scenario (lines ++ more) (given ++ further))
    → RemembersTicks (keeping_of judge) scenario (watched_ticks watch') → HasText text (front ++ alarm_rows scenario.rules further) → GoesOn (work.Watch watch) (work.Watch watch') scenario judge judged front text
watch_goes_on scenario judge judged front text watch watch' further stand decide keeps has = record {
  decided = alarm_rows scenario.rules further;
  has = has;
  keeps = keeps;
  done = λ lines more given done judged is. (
    (done.0.0 ++ further, decide lines more done.0.0 done.1 judged, alarms_more scenario given done.0.0 further done.0.2),
    stand lines more done.0.0 done.1 judged,
  );
}

pub plan_goes_on : (scenario : Scenario) (judge : Judge) (judged : Judged) (front : List ℕ) (text : ReportText) → HasText text front
    → keeping_of judge ≡ Tracks → GoesOn work.Plan work.Plan scenario judge judged front text
plan_goes_on scenario judge judged front text has keeps = record {
  decided = [];
  keeps = keeps;
  has = subst (HasText text) (sym (append-nil front)) has;
  done = λ lines more given done stands is. (append-nil given ∙ done.0, tt);
}

pub drill_goes_on : (scenario : Scenario) (judge : Judge) (judged : Judged) (front : List ℕ) (text : ReportText) (audit audit' : SettledAudit) (further : List Row)
    → ((lines more : List (List ℕ)) (given : List Row) → AuditStandsFor audit scenario lines given → JudgeStandsFor judge scenario (lines ++ more) → AuditStandsFor audit' scenario (lines ++ more) (given ++ further))
    → RemembersTicks (keeping_of judge) scenario (audited_ticks audit') → HasText text front → GoesOn (work.Drill audit) (work.Drill audit') scenario judge judged front text
drill_goes_on scenario judge judged front text audit audit' further stand keeps has = record {
  decided = [];
  has = subst (HasText text) (sym (append-nil front)) has;
  keeps = keeps;
  done = λ lines more given done stands is. (append-nil given ∙ done.0, (done.1.0 ++ further, stand lines more done.1.0 done.1.1 stands));
}

-- The audit's fault that ends a session for its pairs is that of the pairs.
pub pairs_alone : (fault : AuditFault) → auditing_fault fault ≡ why.Pairs → fault ≡ audit_fault.TooManyPairs
pairs_alone audit_fault.TooManyPairs is = refl
pairs_alone audit_fault.Memory is = cc is

-- ---- what is kept

-- enough before the first line
pub keeps_begun : (work : Work) (scenario : Scenario) → KeepsEnough work scenario (keeping_by work)
keeps_begun work.Points scenario = refl
keeps_begun (work.Audit audit) scenario = tt
keeps_begun work.Plan scenario = refl
keeps_begun (work.Drill audit) scenario = tt
keeps_begun work.Recheck scenario = refl
keeps_begun (work.Watch watch) scenario = tt

-- also once what lies before the latest tick is forgotten
pub audit_keeps : (audit : SettledAudit) (scenario : Scenario) (keeping : Keeping) (time : ℕ) → time ≡ latest_time scenario (audited_ticks audit)
    → RemembersTicks keeping scenario (audited_ticks audit) → RemembersTicks (forgetting keeping time) scenario (audited_ticks audit)
audit_keeps audit scenario keeping time is remembers = remembers_forgetting keeping time (latest_time scenario (audited_ticks audit)) (omega (arith, is)) remembers

pub watch_keeps : (watch : SettledWatch) (scenario : Scenario) (keeping : Keeping) (time : ℕ) → time ≡ latest_time scenario (watched_ticks watch)
    → RemembersTicks keeping scenario (watched_ticks watch) → RemembersTicks (forgetting keeping time) scenario (watched_ticks watch)
watch_keeps watch scenario keeping time is remembers = remembers_forgetting keeping time (latest_time scenario (watched_ticks watch)) (omega (arith, is)) remembers
