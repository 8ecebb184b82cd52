-- What a front of a log decides is a front of what follows.
use Rattle.std.proofs.Common.{◌≡◌, ℕ, Bool, List, [], ◌∷◌, ◌++◌, ap, sym, subst, ◌∙◌, append_assoc, append-nil}
use Rattle.std.proofs.lemmas.Grind.{flat_map-append}
use Rattle.report_csv.specs.CsvRows.{row_of}
use Rattle.audit_rows.specs.declared.row.Row.{Row}
use Rattle.early_monitor.specs.Alarms.{AreAlarms}
use Rattle.early_monitor.specs.declared.alarm.Alarm.{Alarm}
use Rattle.auditor.specs.AuditRows.{AreAuditRows}
use Rattle.log_lines.specs.GrowingLog.{ended_lines}
use Rattle.log_lines.specs.JudgedLines.{judged_line, judged_lines}
use Rattle.log_lines.specs.LogLines.{lines_of}
use Rattle.log_lines.specs.SentLines.{sent}
use Rattle.log_lines.specs.declared.judged.Judged.{Judged}
use Rattle.log_lines.proofs.ForCallers.{judged-push}
use Rattle.scenario_values.specs.declared.values.Scenario.{Scenario}
use Rattle.settling.specs.DecidedAlarms.{AreDecidedAlarms}
use Rattle.settling.specs.DecidedRows.{AreDecided}
use Rattle.settled_ticks.specs.Sightings.{sighted}
use Rattle.settling.specs.ScenarioAudit.{audit_numbers}
use Rattle.tasks.specs.declared.mode.Mode.{Mode}
use Rattle.tasks.specs.declared.mode.Mode.TheVariants as mode
use Rattle.sessions.specs.AuditReport.{rows_behind, sightings_of}
use Rattle.audit_report.specs.AlarmRows.{alarm_rows, told_alarm}
use Rattle.audit_report.specs.OutcomeRows.{count_rows}
use Rattle.audit_report.specs.PointRows.{point_rows, rows_of_line}
use Rattle.audit_report.specs.StretchRows.{stretch_fields, stretch_rows}
use Rattle.sessions.specs.Endings.{IsEnding, IsReport}
use Rattle.sessions.specs.Tasks.{Task}
use Rattle.tasks.specs.Modes.{Focus, alarms, each_line, each_tick, early_focus, nothing, own_ship, stretches}
use Rattle.sessions.specs.PointsReport.{points_report}
use Rattle.sessions.specs.SettledText.{IsDecidedBy, IsDecidedText, IsSettledText}

-- The text begins with the other.
abbrev pub Begins : List ℕ → List ℕ → Type 0
Begins text longer = (rest : List ℕ) × (longer ≡ text ++ rest)

-- ---- one text

-- Lines decide one list of rows, and one list of alarms.
abbrev pub OneOfRows : Type 0
OneOfRows = (scenario : Scenario) (lines : List (List ℕ)) (rows others : List Row) → AreDecided scenario lines rows → AreDecided scenario lines others → rows ≡ others

abbrev pub OneOfAlarms : Type 0
OneOfAlarms = (scenario : Scenario) (lines : List (List ℕ)) (early others : List Alarm) → AreDecidedAlarms scenario lines early → AreDecidedAlarms scenario lines others → early ≡ others

one_by : OneOfRows → OneOfAlarms
    → (focus : Focus) (scenario : Scenario) (lines : List (List ℕ)) (text other : List ℕ) → IsDecidedBy focus scenario lines text → IsDecidedBy focus scenario lines other → text ≡ other
one_by one same each_line scenario lines text other a b = a ∙ sym b
one_by one same (each_tick stretches) scenario lines text other (rows, are, is) (others, are', is') =
    is ∙ ap (stretch_rows scenario.rules) (one scenario lines rows others are are') ∙ sym is'
one_by one same (each_tick alarms) scenario lines text other (early, are, is) (others, are', is') =
    is ∙ ap (alarm_rows scenario.rules) (same scenario lines early others are are') ∙ sym is'
one_by one same own_ship scenario lines text other a b = a ∙ sym b
one_by one same nothing scenario lines text other a b = a ∙ sym b

pub one_decided : OneOfRows → OneOfAlarms
    → (m : Mode) (scenario : Scenario) (lines : List (List ℕ)) (text other : List ℕ) → IsDecidedText m scenario lines text → IsDecidedText m scenario lines other → text ≡ other
one_decided one same m = one_by one same (early_focus m)

-- ---- the rows of lines

judged_begin : (scenario : Scenario) (lines more : List (List ℕ)) → (rest : List Judged) × (judged_lines scenario (lines ++ more) ≡ judged_lines scenario lines ++ rest)
judged_begin scenario lines [] = ([], ap (judged_lines scenario) (append-nil lines) ∙ sym (append-nil (judged_lines scenario lines)))
judged_begin scenario lines (line ∷ more) =
    let on = judged_begin scenario (lines ++ line ∷ []) more in (
      judged_line scenario lines line ∷ on.0,
      ap (judged_lines scenario) (sym (append_assoc lines (line ∷ []) more)) ∙ on.1 ∙ ap (λ (l : List Judged). l ++ on.0) (judged-push scenario lines line)
          ∙ append_assoc (judged_lines scenario lines) (judged_line scenario lines line ∷ []) on.0,
    )

points_begin : (scenario : Scenario) (lines more : List (List ℕ)) → Begins (point_rows (judged_lines scenario lines)) (point_rows (judged_lines scenario (lines ++ more)))
points_begin scenario lines more =
    let on = judged_begin scenario lines more in
    (point_rows on.0, ap point_rows on.1 ∙ flat_map-append rows_of_line (judged_lines scenario lines) on.0)

stretches_begin : (scenario : Scenario) (rows all rest : List Row) → all ≡ rows ++ rest → Begins (stretch_rows scenario.rules rows) (stretch_rows scenario.rules all)
stretches_begin scenario rows all rest is =
    (stretch_rows scenario.rules rest, ap (stretch_rows scenario.rules) is ∙ flat_map-append (λ r. row_of (stretch_fields scenario.rules r)) rows rest)

alarms_begin : (scenario : Scenario) (early all rest : List Alarm) → all ≡ early ++ rest → Begins (alarm_rows scenario.rules early) (alarm_rows scenario.rules all)
alarms_begin scenario early all rest is =
    (alarm_rows scenario.rules rest, ap (alarm_rows scenario.rules) is ∙ flat_map-append (λ a. row_of (told_alarm scenario.rules a)) early rest)

-- ---- longer fronts

begins_is : (text longer other : List ℕ) → Begins text longer → other ≡ longer → Begins text other
begins_is text longer other begins is = (begins.0, is ∙ begins.1)

is_begins : (text other longer : List ℕ) → text ≡ other → Begins other longer → Begins text longer
is_begins text other longer is begins = (begins.0, begins.1 ∙ ap (λ (t : List ℕ). t ++ begins.0) (sym is))

goes_on : (text longer more : List ℕ) → Begins text longer → Begins text (longer ++ more)
goes_on text longer more begins = (begins.0 ++ more, ap (λ (t : List ℕ). t ++ more) begins.1 ∙ append_assoc text begins.0 more)

empty_begins : (text longer : List ℕ) → text ≡ [] → Begins text longer
empty_begins text longer is = (longer, ap (λ (t : List ℕ). t ++ longer) (sym is))

-- The rows that are decided are a front of those with further lines, and of the whole report's; and so are the alarms.
pub record Fronts : Type 0 where
  pub rows : (scenario : Scenario) (lines more : List (List ℕ)) (rows later : List Row) → AreDecided scenario lines rows → AreDecided scenario (lines ++ more) later
      → (rest : List Row) × (later ≡ rows ++ rest)
  pub all_rows : (scenario : Scenario) (lines more : List (List ℕ)) (rows all : List Row) → AreDecided scenario lines rows
      → AreAuditRows (audit_numbers scenario) (sighted scenario (sent scenario (lines ++ more))) all → (rest : List Row) × (all ≡ rows ++ rest)
  pub early : (scenario : Scenario) (lines more : List (List ℕ)) (early later : List Alarm) → AreDecidedAlarms scenario lines early → AreDecidedAlarms scenario (lines ++ more) later
      → (rest : List Alarm) × (later ≡ early ++ rest)
  pub all_early : (scenario : Scenario) (lines more : List (List ℕ)) (early all : List Alarm) → AreDecidedAlarms scenario lines early
      → AreAlarms (audit_numbers scenario) (sighted scenario (sent scenario (lines ++ more))) all → (rest : List Alarm) × (all ≡ early ++ rest)

module _ (fronts : Fronts) where
  decided_by : (focus : Focus) (scenario : Scenario) (lines more : List (List ℕ)) (text later : List ℕ) → IsDecidedBy focus scenario lines text
      → IsDecidedBy focus scenario (lines ++ more) later → Begins text later
  decided_by each_line scenario lines more text later a b = begins_is text _ later (is_begins text _ _ a (points_begin scenario lines more)) b
  decided_by (each_tick stretches) scenario lines more text later (rows, are, is) (others, are', is') =
      let rest = fronts.rows scenario lines more rows others are are' in
      begins_is text _ later (is_begins text _ _ is (stretches_begin scenario rows others rest.0 rest.1)) is'
  decided_by (each_tick alarms) scenario lines more text later (early, are, is) (others, are', is') =
      let rest = fronts.early scenario lines more early others are are' in
      begins_is text _ later (is_begins text _ _ is (alarms_begin scenario early others rest.0 rest.1)) is'
  decided_by own_ship scenario lines more text later a b = empty_begins text later a
  decided_by nothing scenario lines more text later a b = empty_begins text later a

  decided_on : (m : Mode) (scenario : Scenario) (lines more : List (List ℕ)) (text later : List ℕ) → IsDecidedText m scenario lines text
      → IsDecidedText m scenario (lines ++ more) later → Begins text later
  decided_on m = decided_by (early_focus m)

  pub settled_on : (stay : (log more : List ℕ) → (lines : List (List ℕ)) × (ended_lines (log ++ more) ≡ ended_lines log ++ lines))
      → (m : Mode) (scenario : Scenario) (front more text later : List ℕ) → IsSettledText m scenario front text → IsSettledText m scenario (front ++ more) later
      → Begins text later
  settled_on stay m scenario front more text later a b =
      let lines = stay front more in
      decided_on m scenario (ended_lines front) lines.0 text later a (subst (λ (l : List (List ℕ)). IsDecidedText m scenario l later) lines.1 b)

  -- ---- the report

  decided_begins : (m : Mode) (scenario : Scenario) (lines more : List (List ℕ)) (log text report : List ℕ) → lines_of log ≡ lines ++ more
      → IsDecidedText m scenario lines text → (why : Bool) (rows : List ℕ) → IsReport m why rows scenario log report → Begins text report
  unfolding points_report sightings_of
  decided_begins mode.Points scenario lines more log text report is a why asked b =
      let rows : Begins (point_rows (judged_lines scenario lines)) (point_rows (judged_lines scenario (lines_of log))) =
      subst (λ (l : List (List ℕ)). Begins (point_rows (judged_lines scenario lines)) (point_rows (judged_lines scenario l))) (sym is) (points_begin scenario lines more) in
      begins_is text _ report (goes_on text _ (count_rows (judged_lines scenario (lines_of log))) (is_begins text _ _ a rows)) b
  decided_begins mode.Audit scenario lines more log text report is (rows, are, told) why asked b =
      let all = subst (λ (l : List (List ℕ)). AreAuditRows (audit_numbers scenario) (sighted scenario (sent scenario l)) b.rows) is b.are_rows in
      let rest = fronts.all_rows scenario lines more rows b.rows are all in
      begins_is text _ report (goes_on text _ (rows_behind scenario log b.totals) (is_begins text _ _ told (stretches_begin scenario rows b.rows rest.0 rest.1))) b.is
  decided_begins mode.Plan scenario lines more log text report is a why asked b = empty_begins text report a
  decided_begins mode.Drill scenario lines more log text report is a why asked b = empty_begins text report a
  decided_begins mode.Recheck scenario lines more log text report is a why asked b = empty_begins text report a
  decided_begins mode.Watch scenario lines more log text report is (early, are, told) why asked b =
      let all = subst (λ (l : List (List ℕ)). AreAlarms (audit_numbers scenario) (sighted scenario (sent scenario l)) b.alarms) is b.are_alarms in
      let rest = fronts.all_early scenario lines more early b.alarms are all in
      begins_is text _ report
      (goes_on text _ (count_rows (judged_lines scenario (lines_of log))) (is_begins text _ _ told (alarms_begin scenario early b.alarms rest.0 rest.1))) b.is

  pub settled_begins : (all : (log more : List ℕ) → (lines : List (List ℕ)) × (lines_of (log ++ more) ≡ ended_lines log ++ lines))
      → (task : Task) (scenario : Scenario) (front more text report : List ℕ) → IsSettledText task.mode scenario front text → IsEnding task scenario (front ++ more) report
      → Begins text report
  settled_begins all task scenario front more text report a b =
      let lines = all front more in
      decided_begins task.mode scenario (ended_lines front) lines.0 (front ++ more) text report lines.1 a task.why task.rows b
