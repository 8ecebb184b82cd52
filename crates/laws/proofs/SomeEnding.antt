-- That a log with which nothing is wrong has no report is refuted.
use Rattle.std.proofs.Common.{ℕ, ◌≡◌, ◌<◌, ◌≤◌, inl, inr, Bool, true, false, IsTrue, List, ◌++◌, length, take, Option, None, Some, Ok, Err, mul-le-mul, refl, subst, sym}
use Rattle.std.specs.Prelude.{IfSome, IsSome, Result}
use Rattle.std.proofs.lemmas.Bool.{cases_lt}
use Rattle.colregs_program.specs.AskedScenarios.{task_of}
use Rattle.hull_domains.specs.Shapes.{IsShape}
use Rattle.lattice.specs.Grids.{IsGrid}
use Rattle.log_lines.specs.GrowingLog.{ended_lines}
use Rattle.log_lines.specs.JudgedLines.{is_crowded, judged_lines, numbers_of}
use Rattle.log_lines.specs.LogLines.{lines_of}
use Rattle.plan_situations.specs.PlanSituations.{greatest_targets, own_readiness, situation_of, targets_near}
use Rattle.plan_situations.specs.declared.readiness.Ready.{Ready}
use Rattle.plan_situations.specs.declared.readiness.Unready.{Unready}
use Rattle.audit_report.specs.AlarmRows.{alarm_rows}
use Rattle.audit_report.specs.OutcomeRows.{count_rows}
use Rattle.audit_report.specs.StretchRows.{stretch_rows}
use Rattle.scenario_values.specs.ValueRanges.{IsOwnPart}
use Rattle.scenario_values.specs.declared.own_part.OwnPart.{OwnPart}
use Rattle.scenario_values.specs.declared.values.Scenario.{Scenario}
use Rattle.sessions.specs.AuditReport.{IsAuditReport, rows_behind, sightings_of}
use Rattle.sessions.specs.DrillReport.{IsDrillReport, drill_text}
use Rattle.sessions.specs.Endings.{Came, First, FirstOf, HasBadEntry, HasManyTraces, HasNoManoeuvre, IsReport, MeetsTargetLimit, OfOwn, Unless, lack_of, lack_where, unready_of}
use Rattle.sessions.specs.PlanReport.{IsOwn, IsPlanReport, log_messages, situation_on}
use Rattle.sessions.specs.PointsReport.{points_report}
use Rattle.sessions.specs.RecheckReport.{IsRecheckReport}
use Rattle.sessions.specs.Refusals.{HasManySettled, IsLogRefused, IsMet}
use Rattle.sessions.specs.WatchReport.{IsWatchReport}
use Rattle.sessions.specs.declared.session_fault.SessionFault.TheVariants as fault
use Rattle.sessions.proofs.ForCallers.{behind_own, behind_targets, behind_traces, behind_vessels, entry_fault, reported}
use Rattle.settling.specs.ScenarioAudit.{audit_numbers}
use Rattle.tasks.specs.declared.mode.Mode.{Mode}
use Rattle.tasks.specs.declared.mode.Mode.TheVariants as mode
use Rattle.laws.specs.Endings.{IsScenarioFor, SomeEnding, SomeEndingOfRun}
use Rattle.laws.proofs.AskedScenarios.{asked_scenario}
use Rattle.laws.proofs.HaveRows.{HaveRows}
use Rattle.laws.proofs.SomeAlarms.{some_alarms}
use Rattle.laws.proofs.SomeAuditRows.{some_audit_rows}
use Rattle.laws.proofs.SomePlanReport.{IsPlannable, some_plan_report, some_recheck_report}
use Rattle.laws.proofs.SentRanges.{sent_sayable}
use Rattle.laws.proofs.SoundSituations.{sound_situation}
use Rattle.laws.proofs.SomeTotals.{some_totals}

-- ---- the reports of ticks

module _ (rows_of : HaveRows) (scenario : Scenario) (log : List ℕ) where
  some_audit_report : ¬ ((text : List ℕ) → ¬ IsAuditReport scenario log text)
  some_audit_report none =
      some_audit_rows (audit_numbers scenario) (sightings_of scenario log) (λ rows are_rows.
      some_totals rows_of (audit_numbers scenario) (sightings_of scenario log) rows (λ totals are_totals.
      none (stretch_rows scenario.rules rows ++ rows_behind scenario log totals)
      (record { rows = rows; totals = totals; are_rows = are_rows; are_totals = are_totals; is = refl })))

  some_drill_report : ¬ ((text : List ℕ) → ¬ IsDrillReport scenario log text)
  some_drill_report none =
      some_audit_rows (audit_numbers scenario) (sightings_of scenario log) (λ rows are_rows.
      some_totals rows_of (audit_numbers scenario) (sightings_of scenario log) rows (λ totals are_totals.
      none (drill_text scenario log totals) (record { rows = rows; totals = totals; are_rows = are_rows; are_totals = are_totals; is = refl })))

  some_watch_report : ¬ ((text : List ℕ) → ¬ IsWatchReport scenario log text)
  some_watch_report none =
      some_alarms (audit_numbers scenario) (sightings_of scenario log) (λ alarms are_alarms.
      none (alarm_rows scenario.rules alarms ++ count_rows (judged_lines scenario (lines_of log))) (record { alarms = alarms; are_alarms = are_alarms; is = refl }))

-- ---- what an answer without a refusal says

past_first : (Stands : Type 0) (here : Came) (Else : Came → Type 0) (none : Bool) → (here ≡ Ok none → ⊥) → First Stands here Else (Ok none) → (¬ Stands) × Else (Ok none)
past_first Stands here Else none other (inl (stands, is)) = absurd (other (sym is))
past_first Stands here Else none other (inr rest) = rest

past_unless : (lack : Option Unready) (Else : Came → Type 0) (none : Bool) → Unless lack Else (Ok none) → (lack ≡ None) × Else (Ok none)
past_unless None Else none is = (refl, is)
past_unless (Some why) Else none is = absurd (cc is)

past_first_of : (Stands : ℕ → Type 0) (here : ℕ → Came) (Else : Came → Type 0) (none : Bool) → ((k : ℕ) → here k ≡ Ok none → ⊥) → FirstOf Stands here Else (Ok none)
    → (k : ℕ) → ¬ Stands k
past_first_of Stands here Else none other (inl (k, stands, is)) = absurd (other k (sym is))
past_first_of Stands here Else none other (inr rest) = rest.0

not_refused : (m : Mode) (scenario : Scenario) (front : List ℕ) (none : Bool) → IsLogRefused m scenario front (Ok none) → ⊥
not_refused m scenario front none refused =
    let bytes = past_first (scenario.log.max_bytes < length front) (Err fault.LogBytes)
    (First (IsTrue (is_crowded scenario (ended_lines front))) (Err fault.Vessels) (First (HasManySettled m scenario (ended_lines front)) (Err fault.Pairs) (λ came. ⊥))) none (λ is. cc is) refused in
    let vessels = past_first (IsTrue (is_crowded scenario (ended_lines front))) (Err fault.Vessels) (First (HasManySettled m scenario (ended_lines front)) (Err fault.Pairs) (λ came. ⊥)) none
    (λ is. cc is) bytes.1 in
    (past_first (HasManySettled m scenario (ended_lines front)) (Err fault.Pairs) (λ came. ⊥) none (λ is. cc is) vessels.1).1

-- what is left behind own ship's state: she has not too many targets, and rows that are checked are not bad
record IsUnhindered (m : Mode) (rows : List ℕ) (scenario : Scenario) (log : List ℕ) : Type 0 where
  pub ready : unready_of m scenario log ≡ None
  pub few : ¬ MeetsTargetLimit m scenario log
  pub good : (¬ HasNoManoeuvre m scenario log) → (k : ℕ) → ¬ HasBadEntry m rows scenario log k

module _ (m : Mode) (rows : List ℕ) (scenario : Scenario) (log : List ℕ) (none : Bool) where
  good_rows : First (HasNoManoeuvre m scenario log) (Ok true) (FirstOf (HasBadEntry m rows scenario log) entry_fault reported) (Ok none) → (¬ HasNoManoeuvre m scenario log)
      → (k : ℕ) → ¬ HasBadEntry m rows scenario log k
  good_rows (inl (stands, is)) some = absurd (some stands)
  good_rows (inr rest) some = past_first_of (HasBadEntry m rows scenario log) entry_fault reported none (λ k is. cc is) rest.1

  unhindered : IsMet (record { mode = m; why = false; rows = rows }) scenario log (Ok none) → IsUnhindered m rows scenario log
  unhindered (inl (place, at)) = absurd (not_refused m scenario (take place log) none at.here)
  unhindered (inr (unrefused, answer)) =
      let vessels = past_first (IsTrue (is_crowded scenario (lines_of log))) (Err fault.Vessels) (behind_vessels m rows scenario log) none (λ is. cc is) answer in
      let traces = past_first (HasManyTraces m scenario log) (Err fault.Pairs) (behind_traces m rows scenario log) none (λ is. cc is) vessels.1 in
      let own = past_unless (unready_of m scenario log) (behind_own m rows scenario log) none traces.1 in
      let targets = past_first (MeetsTargetLimit m scenario log) (Err fault.Targets) (behind_targets m rows scenario log) none (λ is. cc is) own.1 in
      record { ready = own.0; few = targets.0; good = good_rows targets.1 }

-- ---- own ship, who is ready

module _ (scenario : Scenario) (log : List ℕ) where
  ready_own : (own : OwnPart) (found : Result Ready Unready) → own_readiness (numbers_of scenario) (log_messages scenario log) scenario own ≡ found → lack_of found ≡ None
      → (ready : Ready) × (own_readiness (numbers_of scenario) (log_messages scenario log) scenario own ≡ Ok ready)
  ready_own own (Ok ready) is lack = (ready, is)
  ready_own own (Err why) is lack = absurd (cc lack)

  some_own : (o : Option OwnPart) → scenario.own ≡ o → IsSome o → lack_where scenario log o ≡ None → (own : OwnPart) × (ready : Ready) × IsOwn scenario log own ready
  some_own None is some lack = absurd (cc some)
  some_own (Some own) is some lack =
      let found = ready_own own (own_readiness (numbers_of scenario) (log_messages scenario log) scenario own) refl lack in
      (own, found.0, record { needed = is; is_ready = found.1 })

  few_targets : (own : OwnPart) (ready : Ready) → IsOwn scenario log own ready
      → ¬ OfOwn scenario log (λ own ready. greatest_targets < length (targets_near (numbers_of scenario) (log_messages scenario log) scenario own ready))
      → length (targets_near (numbers_of scenario) (log_messages scenario log) scenario own ready) ≤ greatest_targets
  few_targets own ready is_own not = elim (cases_lt greatest_targets (length (targets_near (numbers_of scenario) (log_messages scenario log) scenario own ready))) [
    | inl many ↦ absurd (not (own, ready, is_own, many))
    | inr few ↦ few
  ]

  -- A plan may be sought in her situation.
  plannable : (m : Mode) → IsScenarioFor m scenario → (own : OwnPart) (ready : Ready) → IsOwn scenario log own ready
      → length (targets_near (numbers_of scenario) (log_messages scenario log) scenario own ready) ≤ greatest_targets → IsPlannable (situation_on scenario log own ready)
  unfolding situation_of
  plannable m valid own ready is_own few =
      let range = valid.in_range in
      let grid = subst (λ (o : Option OwnPart). IfSome o (λ own. IsGrid own.lattice)) is_own.needed valid.lattice in
      let part = subst (λ (o : Option OwnPart). IfSome o (IsOwnPart scenario.window.tick)) is_own.needed range.own in
      record {
        sound = sound_situation (numbers_of scenario) (log_messages scenario log) scenario own ready range part grid range.log.gap_to range.log.gap_from range.log.max_speed_to
            (sent_sayable scenario (lines_of log)) is_own.is_ready few;
        different = range.rules.right.different;
        few = mul-le-mul grid.few_courses grid.few_speeds;
        shape = subst (λ (o : Option OwnPart). IfSome o (λ own. IfSome own.shape IsShape)) is_own.needed valid.shape;
      }

-- ---- each task

module _ (rows_of : HaveRows) (scenario : Scenario) (log : List ℕ) (none : Bool) where
  some_plan : (why : Bool) (rows : List ℕ) → IsScenarioFor mode.Plan scenario → IsUnhindered mode.Plan rows scenario log → ¬ ((text : List ℕ) → ¬ IsPlanReport why scenario log text)
  some_plan why rows valid free =
      let (own, ready, is_own) = some_own scenario log scenario.own refl (valid.own refl) free.ready in
      let few = few_targets scenario log own ready is_own free.few in
      some_plan_report scenario log own ready is_own (plannable scenario log mode.Plan valid own ready is_own few) rows_of why

  some_recheck : (rows : List ℕ) → IsScenarioFor mode.Recheck scenario → IsUnhindered mode.Recheck rows scenario log → ¬ ((text : List ℕ) → ¬ IsRecheckReport rows scenario log text)
  some_recheck rows valid free =
      let (own, ready, is_own) = some_own scenario log scenario.own refl (valid.own refl) free.ready in
      let few = few_targets scenario log own ready is_own free.few in
      some_recheck_report scenario log own ready is_own (plannable scenario log mode.Recheck valid own ready is_own few) rows_of rows
      (λ k bad. free.good (λ no_manoeuvre. no_manoeuvre) k (own, ready, is_own, bad))

  some_report : (m : Mode) (why : Bool) (rows : List ℕ) → IsScenarioFor m scenario
      → IsMet (record { mode = m; why = why; rows = rows }) scenario log (Ok none) → ¬ ((text : List ℕ) → ¬ IsReport m why rows scenario log text)
  some_report mode.Points why rows valid met = λ no_text. no_text (points_report scenario log) refl
  some_report mode.Audit why rows valid met = some_audit_report rows_of scenario log
  some_report mode.Plan why rows valid met = some_plan why rows valid (unhindered mode.Plan rows scenario log none met)
  some_report mode.Drill why rows valid met = some_drill_report rows_of scenario log
  some_report mode.Recheck why rows valid met = some_recheck rows valid (unhindered mode.Recheck rows scenario log none met)
  some_report mode.Watch why rows valid met = some_watch_report rows_of scenario log

pub some_ending : HaveRows → SomeEnding
some_ending rows_of task scenario log none = some_report rows_of scenario log none task.mode task.why task.rows

pub some_ending_of_run : HaveRows → SomeEndingOfRun
some_ending_of_run rows_of words files given request rows scenario log none ready met =
    let (held, bytes, is, lies, is_scenario) = ready.lies in
    some_ending rows_of (task_of request rows) scenario log none (asked_scenario words request bytes scenario ready.asked is_scenario) met
