-- The rows of alarms, written one after the other.
use Rattle.std.proofs.Common.{ℕ, ◌≡◌, ◌<◌, false, List, [], ◌++◌, length, refl, append_assoc, sym, ap, ◌∙◌}
use Rattle.std.specs.Prelude.{All}
use Rattle.std.proofs.lemmas.Grind.{flat_map-append}
use Rattle.std.proofs.lemmas.List.Elements.{All-contains, Contains-append_right}
use Rattle.report_csv.specs.CsvRows.{row_of}
use Rattle.early_monitor.specs.Alarms.{AreAlarms}
use Rattle.early_monitor.specs.declared.alarm.Alarm.{Alarm}
use Rattle.log_lines.specs.JudgedLines.{is_crowded, judged_lines}
use Rattle.log_lines.specs.LogLines.{lines_of}
use Rattle.log_lines.specs.declared.judge.Judge.{Judge}
use Rattle.traces.specs.Audited.{AuditNumbers, Sighting}
use Rattle.traces.specs.ManyTraces.{HaveMoreThan}
use Rattle.traces.specs.declared.all_traces.TheConstants.{MOST_TRACES}
use Rattle.traces.specs.declared.fault.TickFault.{TickFault as WatchFault}
use Rattle.traces.specs.declared.fault.TickFault.TheVariants as watch_fault
use Rattle.scenario_values.specs.declared.values.Scenario.{Scenario}
use Rattle.tasks.specs.declared.mode.Mode.TheVariants as mode
use Rattle.settling.specs.DecidedAlarms.{AreDecidedAlarms}
use Rattle.settling.specs.ScenarioAudit.{audit_numbers}
use Rattle.settling.specs.WatchStanding.{AreOfOneLog}
use Rattle.settling.specs.declared.settled_watch.SettledWatch.{SettledWatch}
use Rattle.sessions.specs.AuditReport.{sightings_of}
use Rattle.audit_report.specs.AlarmRows.{alarm_rows, told_alarm}
use Rattle.audit_report.specs.OutcomeRows.{count_rows}
use Rattle.sessions.specs.WatchReport.{IsWatchReport}
use Rattle.sessions.specs.Inner.AtEnd.{IsWatchAtEnd}
use Rattle.sessions.specs.Inner.Faults.{EndCause, auditing_fault}
use Rattle.sessions.proofs.AtEnds.{judged_parts}
use Rattle.sessions.proofs.Auditing.{all_of}
use Rattle.sessions.proofs.Meeting.{pairs_answer}

-- ---- alarms name rules that exist

-- Each alarm is of one of so many rules.
abbrev pub AreOfRules : ℕ → List Alarm → Type 0
AreOfRules count early = All (λ (alarm : Alarm). alarm.rule < count) early

pub alarms_of_rules : (numbers : AuditNumbers) (ticks : List Sighting) (early : List Alarm) → AreAlarms numbers ticks early → AreOfRules (length numbers.rules) early
alarms_of_rules numbers ticks early are = all_of (λ (alarm : Alarm). alarm.rule < length numbers.rules) early (λ alarm i. ((are.each alarm).0 i).within)

pub alarms_of_rules_decided : (scenario : Scenario) (lines : List (List ℕ)) (early : List Alarm) → AreDecidedAlarms scenario lines early → AreOfRules (length scenario.rules) early
alarms_of_rules_decided scenario lines early are = all_of (λ (alarm : Alarm). alarm.rule < length scenario.rules) early (λ alarm i. ((are.each alarm).0 i).0.within)

-- alarms behind others
pub last_alarms : (count : ℕ) (given early : List Alarm) → AreOfRules count (given ++ early) → AreOfRules count early
last_alarms count given early all =
    all_of (λ (alarm : Alarm). alarm.rule < count) early
    (λ alarm i. All-contains (λ (a : Alarm). a.rule < count) (given ++ early) alarm all (Contains-append_right given early alarm i))

-- ---- at a log's end

pub of_one_log : (watch : SettledWatch) (judge : Judge) (scenario : Scenario) → IsWatchAtEnd watch judge scenario → AreOfOneLog watch scenario judge
of_one_log watch judge scenario at = record {
  lines = lines_of at.log;
  more = [];
  given = at.given;
  stands = at.is.stands;
  judged = judged_parts judge scenario at.log at.given at.is;
}

pub watch_cause : (scenario : Scenario) (log : List ℕ) (fault : WatchFault) → is_crowded scenario (lines_of log) ≡ false
    → (fault ≡ watch_fault.TooManyPairs → HaveMoreThan MOST_TRACES (audit_numbers scenario) (sightings_of scenario log)) → EndCause mode.Watch [] scenario log (auditing_fault fault)
watch_cause scenario log watch_fault.TooManyPairs calm many = pairs_answer mode.Watch [] scenario log calm (many refl)
watch_cause scenario log watch_fault.Memory calm many = tt

-- behind what was given before, and what stands in the text
pub whole_watch : (scenario : Scenario) (log before front : List ℕ) (given early : List Alarm) (rest : List ℕ)
    → AreAlarms (audit_numbers scenario) (sightings_of scenario log) (given ++ early)
    → before ++ front ≡ alarm_rows scenario.rules given → rest ≡ (front ++ alarm_rows scenario.rules early) ++ count_rows (judged_lines scenario (lines_of log))
    → IsWatchReport scenario log (before ++ rest)
whole_watch scenario log before front given early rest are so_far is =
    let e = alarm_rows scenario.rules early in
    let counts = count_rows (judged_lines scenario (lines_of log)) in
    record {
      alarms = given ++ early;
      are_alarms = are;
      is = ap (λ (l : List ℕ). before ++ l) is
          ∙ sym (append_assoc before (front ++ e) counts)
          ∙ ap (λ (l : List ℕ). l ++ counts) (sym (append_assoc before front e))
          ∙ ap (λ (l : List ℕ). (l ++ e) ++ counts) so_far
          ∙ ap (λ (l : List ℕ). l ++ counts) (sym (flat_map-append (λ (a : Alarm). row_of (told_alarm scenario.rules a)) given early));
    }
