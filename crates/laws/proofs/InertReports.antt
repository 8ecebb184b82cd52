-- The report on a log without an inert line: the same but for one count.
use Rattle.std.proofs.Common.{◌≡◌, ℕ, ◌+◌, ◌-◌, ◌<◌, ◌==◌, Bool, true, false, cond, List, [], ◌∷◌, ◌++◌, count_by, Ok, refl, ap, sym, subst, ◌∙◌, arith, append_assoc, append-nil, if◌then◌else◌}
use Rattle.std.proofs.lemmas.Bool.Decides.{nat_tests}
use Rattle.std.proofs.lemmas.Grind.{flat_map-append}
use Rattle.std.proofs.lemmas.List.Sums.{sum_by-append, sum_by-cons}
use Rattle.aivdm.specs.declared.sentence.LineCause.{LineCause}
use Rattle.auditor.specs.AuditRows.{AreAuditRows}
use Rattle.auditor.specs.AuditTotals.{AreTotals}
use Rattle.early_monitor.specs.Alarms.{AreAlarms}
use Rattle.traces.specs.Audited.{Sighting}
use Rattle.tasks.specs.declared.mode.Mode.{Mode}
use Rattle.tasks.specs.declared.mode.Mode.TheVariants as mode
use Rattle.log_lines.specs.EachLine.{each_after}
use Rattle.log_lines.specs.JudgedLines.{count_of, judged_line, judged_lines, numbers_of, outcome_of}
use Rattle.log_lines.specs.LineOutcomes.{line_outcome, outcome_index}
use Rattle.log_lines.specs.LogLines.{lines_of}
use Rattle.log_lines.specs.SentLines.{sent}
use Rattle.log_lines.specs.declared.judged.Judged.{Judged}
use Rattle.log_lines.specs.declared.judged.Judged.TheVariants as judged
use Rattle.log_lines.specs.declared.outcome.LineOutcome.{LineOutcome}
use Rattle.plan_situations.specs.PlanSituations.{own_readiness, situation_of, vessels_near}
use Rattle.scenario_values.specs.declared.values.Scenario.{Scenario}
use Rattle.sessions.specs.AuditReport.{IsAuditReport, rows_behind, sightings_of}
use Rattle.audit_report.specs.AlarmRows.{alarm_rows}
use Rattle.audit_report.specs.OutcomeRows.{count_rows}
use Rattle.audit_report.specs.PlanRows.{manoeuvre_rows}
use Rattle.audit_report.specs.PointRows.{point_rows, rows_of_line}
use Rattle.audit_report.specs.StretchRows.{stretch_rows}
use Rattle.audit_report.specs.TotalRows.{total_rows}
use Rattle.audit_report.specs.VesselRows.{near_rows, vessel_rows}
use Rattle.sessions.specs.DrillReport.{IsDrillReport, drill_text}
use Rattle.sessions.specs.Endings.{IsReport}
use Rattle.sessions.specs.PlanReport.{AreReasons, IsManoeuvre, IsPlanReport, log_messages, plan_text}
use Rattle.sessions.specs.PointsReport.{points_report}
use Rattle.sessions.specs.RecheckReport.{IsRecheckReport}
use Rattle.sessions.specs.WatchReport.{IsWatchReport}
use Rattle.refutation_check.specs.CheckedRows.{AreRight, why_rows}
use Rattle.plan_situations.specs.LeastPlans.{AllFail}
use Rattle.settled_ticks.specs.Sightings.{sighted}
use Rattle.settling.specs.ScenarioAudit.{audit_numbers}
use Rattle.tracks.specs.VesselsHeld.{Sent}
use Rattle.laws.specs.InertLines.{HasOneFewer, IsInert, IsWithoutLine, one_fewer, rows_of_counts}
use Rattle.laws.proofs.InertLines.{judged_with, judged_without, sent_same}
use Rattle.laws.proofs.OneLine.{IsAmong}

-- ---- the counts

count_one : (p : Judged → Bool) (xs ys : List Judged) (y : Judged) → count_by p (xs ++ y ∷ ys) ≡ cond (p y) 1 0 + count_by p (xs ++ ys)
count_one p xs ys y =
    let f : Judged → ℕ = λ line. cond (p line) 1 0 in
    omega (arith, sum_by-append f xs (y ∷ ys), sum_by-cons f y ys, sum_by-append f xs ys)

fewer_by : (same : Bool) (count other : ℕ) → count ≡ cond same 1 0 + other → (if same then count - 1 else count) ≡ other
fewer_by true count other e = omega (arith, e)
fewer_by false count other e = omega (arith, e)

place_itself : (n : ℕ) → (n == n) ≡ true
place_itself n = grind (arith, nat_tests)

module _ (came : LineOutcome) (xs ys : List Judged) where
  fewer_at : (outcome : LineOutcome) → one_fewer came (λ o. count_of o (xs ++ judged.Without came ∷ ys)) outcome ≡ count_of outcome (xs ++ ys)
  fewer_at outcome = fewer_by (outcome_index came == outcome_index outcome) (count_of outcome (xs ++ judged.Without came ∷ ys)) (count_of outcome (xs ++ ys))
      (count_one (λ line. outcome_index (outcome_of line) == outcome_index outcome) xs ys (judged.Without came))

  counts_fewer : one_fewer came (λ o. count_of o (xs ++ judged.Without came ∷ ys)) ≡ (λ o. count_of o (xs ++ ys))
  counts_fewer = λ i. λ outcome. fewer_at outcome i

  counts_some : 0 < count_of came (xs ++ judged.Without came ∷ ys)
  counts_some =
      let one = count_one (λ line. outcome_index (outcome_of line) == outcome_index came) xs ys (judged.Without came) in
      let here : cond (outcome_index came == outcome_index came) 1 0 ≡ 1 = ap (λ (b : Bool). cond {A = ℕ} b 1 0) (place_itself (outcome_index came)) in
      omega (arith, one, here)

-- ---- the reports

module _ (scenario : Scenario) (log less : List ℕ) (front : List (List ℕ)) (line : List ℕ) (cause : LineCause)
    (among : IsAmong log less front line) (inert : IsInert scenario front line cause) where
  abbrev before : List Judged
  before = judged_lines scenario front

  abbrev after : List Judged
  after = each_after (judged_line scenario) front among.back

  with_line : judged_lines scenario (lines_of log) ≡ before ++ judged.Without (line_outcome cause) ∷ after
  with_line = ap (judged_lines scenario) among.all ∙ judged_with scenario front line cause inert among.back

  without_line : judged_lines scenario (lines_of less) ≡ before ++ after
  without_line = ap (judged_lines scenario) among.others ∙ judged_without scenario front line cause inert among.back

  messages_same : sent scenario (lines_of log) ≡ sent scenario (lines_of less)
  messages_same = ap (sent scenario) among.all ∙ sent_same scenario front line cause inert among.back ∙ ap (sent scenario) (sym among.others)

  sightings_same : sightings_of scenario log ≡ sightings_of scenario less
  unfolding sightings_of
  sightings_same = ap (sighted scenario) messages_same

  points_same : point_rows (judged_lines scenario (lines_of log)) ≡ point_rows (judged_lines scenario (lines_of less))
  points_same = ap point_rows with_line ∙ flat_map-append rows_of_line before (judged.Without (line_outcome cause) ∷ after)
      ∙ sym (flat_map-append rows_of_line before after) ∙ ap point_rows (sym without_line)

  -- Rows that are the same, then the counts, then reasons that are the same.
  one_count_among : (rows reasons text other : List ℕ) → text ≡ rows ++ count_rows (judged_lines scenario (lines_of log)) ++ reasons
      → other ≡ rows ++ count_rows (judged_lines scenario (lines_of less)) ++ reasons → HasOneFewer (line_outcome cause) text other
  one_count_among rows reasons text other is is_other = record {
    rows = rows;
    count = λ o. count_of o (before ++ judged.Without (line_outcome cause) ∷ after);
    reasons = reasons;
    some = counts_some (line_outcome cause) before after;
    is = is ∙ ap (λ lines. rows ++ count_rows lines ++ reasons) with_line;
    is_other = is_other ∙ ap (λ lines. rows ++ count_rows lines ++ reasons) without_line
        ∙ ap (λ count. rows ++ rows_of_counts count ++ reasons) (sym (counts_fewer (line_outcome cause) before after));
  }

  one_count : (rows text other : List ℕ) → text ≡ rows ++ count_rows (judged_lines scenario (lines_of log))
      → other ≡ rows ++ count_rows (judged_lines scenario (lines_of less)) → HasOneFewer (line_outcome cause) text other
  one_count rows text other is is_other =
      one_count_among rows [] text other (is ∙ sym (append-nil (rows ++ count_rows (judged_lines scenario (lines_of log)))))
      (is_other ∙ sym (append-nil (rows ++ count_rows (judged_lines scenario (lines_of less)))))

  of_points : (text : List ℕ) → text ≡ points_report scenario log → (other : List ℕ) × (other ≡ points_report scenario less) × HasOneFewer (line_outcome cause) text other
  unfolding points_report
  of_points text is = (
    points_report scenario less,
    refl,
    one_count (point_rows (judged_lines scenario (lines_of less))) text (points_report scenario less)
        (is ∙ ap (λ rows. rows ++ count_rows (judged_lines scenario (lines_of log))) points_same) refl,
  )

  of_audit : (text : List ℕ) → IsAuditReport scenario log text
      → (other : List ℕ) × IsAuditReport scenario less other × HasOneFewer (line_outcome cause) text other
  unfolding rows_behind
  of_audit text report =
      let stretches = stretch_rows scenario.rules report.rows in
      let told : List Sent → List ℕ = λ messages. vessel_rows (numbers_of scenario) messages ++ total_rows scenario.rules report.totals in
      let other = stretches ++ rows_behind scenario less report.totals in (
        other,
        record {
          rows = report.rows;
          totals = report.totals;
          are_rows = subst (λ (sightings : List Sighting). AreAuditRows (audit_numbers scenario) sightings report.rows) sightings_same report.are_rows;
          are_totals = subst (λ (sightings : List Sighting). AreTotals (audit_numbers scenario) sightings report.rows report.totals) sightings_same report.are_totals;
          is = refl;
        },
        one_count (stretches ++ told (sent scenario (lines_of less))) text other
            (report.is ∙ ap (λ messages. stretches ++ (told messages ++ count_rows (judged_lines scenario (lines_of log)))) messages_same
            ∙ sym (append_assoc stretches (told (sent scenario (lines_of less))) (count_rows (judged_lines scenario (lines_of log)))))
            (sym (append_assoc stretches (told (sent scenario (lines_of less))) (count_rows (judged_lines scenario (lines_of less))))),
      )

  of_drill : (text : List ℕ) → IsDrillReport scenario log text
      → (other : List ℕ) × IsDrillReport scenario less other × HasOneFewer (line_outcome cause) text other
  unfolding drill_text
  of_drill text report = (
    drill_text scenario less report.totals,
    record {
      rows = report.rows;
      totals = report.totals;
      are_rows = subst (λ (sightings : List Sighting). AreAuditRows (audit_numbers scenario) sightings report.rows) sightings_same report.are_rows;
      are_totals = subst (λ (sightings : List Sighting). AreTotals (audit_numbers scenario) sightings report.rows report.totals) sightings_same report.are_totals;
      is = refl;
    },
    one_count (total_rows scenario.rules report.totals) text (drill_text scenario less report.totals) report.is refl,
  )

  of_plan : (why : Bool) (text : List ℕ) → IsPlanReport why scenario log text
      → (other : List ℕ) × IsPlanReport why scenario less other × HasOneFewer (line_outcome cause) text other
  unfolding plan_text
  of_plan why text report =
      let own = report.own in
      let ready = report.ready in
      let numbers = numbers_of scenario in
      let rows : List Sent → List ℕ = λ messages. near_rows numbers messages (vessels_near numbers messages scenario own ready)
      ++ manoeuvre_rows scenario.window.ticks own.lattice ready report.manoeuvre in (
        plan_text scenario less own ready report.manoeuvre ++ report.reasons,
        record {
          own = own;
          ready = ready;
          is_own = record {
            needed = report.is_own.needed;
            is_ready = subst (λ (messages : List Sent). own_readiness numbers messages scenario own ≡ Ok ready) messages_same report.is_own.is_ready;
          };
          manoeuvre = report.manoeuvre;
          is_first = subst (λ (messages : List Sent). IsManoeuvre (situation_of numbers messages scenario own ready) report.manoeuvre) messages_same report.is_first;
          reasons = report.reasons;
          are_reasons = subst (λ (messages : List Sent). AreReasons why (situation_of numbers messages scenario own ready) report.manoeuvre report.reasons) messages_same report.are_reasons;
          is = refl;
        },
        one_count_among (rows (log_messages scenario less)) report.reasons text (plan_text scenario less own ready report.manoeuvre ++ report.reasons)
            (report.is ∙ ap (λ messages. rows messages ++ count_rows (judged_lines scenario (lines_of log)) ++ report.reasons) messages_same) refl,
      )

  of_recheck : (rows text : List ℕ) → IsRecheckReport rows scenario log text → (other : List ℕ) × IsRecheckReport rows scenario less other × (other ≡ text)
  of_recheck rows text report =
      let own = report.own in
      let numbers = numbers_of scenario in (
        text,
        record {
          own = own;
          ready = report.ready;
          is_own = record {
            needed = report.is_own.needed;
            is_ready = subst (λ (messages : List Sent). own_readiness numbers messages scenario own ≡ Ok report.ready) messages_same report.is_own.is_ready;
          };
          right = subst (λ (messages : List Sent). AreRight (situation_of numbers messages scenario own report.ready) (why_rows rows)) messages_same report.right;
          fail = subst (λ (messages : List Sent). AllFail (situation_of numbers messages scenario own report.ready)) messages_same report.fail;
          is = report.is;
        },
        refl,
      )

  of_watch : (text : List ℕ) → IsWatchReport scenario log text
      → (other : List ℕ) × IsWatchReport scenario less other × HasOneFewer (line_outcome cause) text other
  of_watch text report =
      let rows = alarm_rows scenario.rules report.alarms in
      let other = rows ++ count_rows (judged_lines scenario (lines_of less)) in (
        other,
        record {
          alarms = report.alarms;
          are_alarms = subst (λ (sightings : List Sighting). AreAlarms (audit_numbers scenario) sightings report.alarms) sightings_same report.are_alarms;
          is = refl;
        },
        one_count rows text other report.is refl,
      )

  pub of_mode : (m : Mode) (why : Bool) (rows text : List ℕ) → IsReport m why rows scenario log text
      → (other : List ℕ) × IsReport m why rows scenario less other × IsWithoutLine m (line_outcome cause) text other
  of_mode mode.Points why rows text report = of_points text report
  of_mode mode.Audit why rows text report = of_audit text report
  of_mode mode.Plan why rows text report = of_plan why text report
  of_mode mode.Drill why rows text report = of_drill text report
  of_mode mode.Recheck why rows text report = of_recheck rows text report
  of_mode mode.Watch why rows text report = of_watch text report
