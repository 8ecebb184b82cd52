-- Two windows that judge a vessel's reports alike see her alike.
use Rattle.std.proofs.Common.{◌≡◌, ℕ, ◌+◌, ◌-◌, ◌*◌, ◌≤◌, Bool, ◌&&◌, nat_le, List, [], ◌∷◌, length, refl, sym, ap, subst, ◌∙◌, arith}
use Rattle.std.proofs.Math.Nat.{mul-le-mul_right}
use Rattle.std.specs.Prelude.{Option, Some, None, ◌↔◌}
use Rattle.std.specs.List.{filter, last_or}
use Rattle.std.specs.Option.{option_map}
use Rattle.audit_rows.specs.Order.{first_step_of, last_step_of}
use Rattle.audit_rows.specs.declared.row.Row.{Row}
use Rattle.auditor.specs.AuditRows.{IsAuditRow}
use Rattle.auditor.specs.SettledRows.{audit_reach}
use Rattle.log_lines.specs.JudgedLines.{numbers_of}
use Rattle.log_lines.specs.LineTimes.{is_in_window, reach_behind}
use Rattle.log_lines.specs.LogLines.{lines_of}
use Rattle.log_lines.specs.SentLines.{sent}
use Rattle.log_lines.specs.ShipTypes.{noted}
use Rattle.motion.specs.TickStates.{holds, state_at, state_on}
use Rattle.motion.specs.declared.leg.Leg.{Leg}
use Rattle.motion.specs.declared.leg.TickState.{TickState}
use Rattle.ranks.specs.VesselRanks.{Note, rank_at, rank_by_report, rank_by_type, report_at}
use Rattle.scenario_values.specs.Ticks.{time_of_tick, window_end}
use Rattle.scenario_values.specs.declared.values.Scenario.{Scenario}
use Rattle.sessions.specs.AuditReport.{sightings_of}
use Rattle.settling.specs.ScenarioAudit.{audit_numbers}
use Rattle.traces.specs.Audited.{AuditNumbers}
use Rattle.tracks.specs.AcceptedReports.{JudgingNumbers}
use Rattle.tracks.specs.JoinedReports.{legs_between}
use Rattle.tracks.specs.VesselsHeld.{Sent, accepted_of, legs_of}
use Rattle.tracks.specs.declared.accepted.Accepted.{Accepted}
use Rattle.tracks.proofs.ForCallers.{accepted_in_order}
use Rattle.laws.specs.Reported.{IsReported, pair_of}
use Rattle.laws.specs.Windows.{BeginsAnew, ComeIntoContactBehind, IsJudgedAlike, IsMeeting, IsRankedAlike, IsSeenAlike, IsTypedAlike, moved, over, with_window}
use Rattle.laws.proofs.SameLegs.{held_alike, in_time, is_near, last_alike}
use Rattle.laws.proofs.SameMeetings.{meetings_of_windows}
use Rattle.laws.proofs.SameTraces.{rows_behind}
use Rattle.laws.proofs.SeenStates.{rank_where, same_rank, same_where, seen_rank, seen_state, sightings_length}

rank_by_last : (noted : List Note) (m t : ℕ) (points others : List Accepted) → report_at points t ≡ report_at others t → rank_at noted m points t ≡ rank_at noted m others t
unfolding rank_at
rank_by_last noted m t points others e = ap (λ (o : Option Accepted). rank_by_report o (rank_by_type noted m t)) e

state_held : (numbers : JudgingNumbers) (messages : List Sent) (t m : ℕ)
    → state_at t (legs_of numbers messages m) ≡ option_map (state_on t) (last_or None (filter (holds t) (legs_between numbers.gap (accepted_of numbers messages m))))
unfolding state_at legs_of
state_held numbers messages t m = refl

-- A state hangs on the reports that lie at most the gap from a window that has the time.
state_near : (numbers : JudgingNumbers) (messages : List Sent) (t m lo hi : ℕ) → lo ≤ t → t ≤ hi
    → state_at t (legs_of numbers messages m)
    ≡ option_map (state_on t) (last_or None (filter (holds t) (legs_between numbers.gap (filter (is_near numbers.gap lo hi) (accepted_of numbers messages m)))))
state_near numbers messages t m lo hi from to =
    state_held numbers messages t m
    ∙ ap (λ (legs : List Leg). option_map (state_on t) (last_or None legs))
    (held_alike numbers.gap lo hi t from to (accepted_of numbers messages m) (in_time (accepted_of numbers messages m) (accepted_in_order numbers messages m)))

-- Where she is seen, her last report by then lies at most the gap from a window that has the time.
last_near : (numbers : JudgingNumbers) (messages : List Sent) (t m lo hi : ℕ) → lo ≤ t → t ≤ hi → (state : TickState) → state_at t (legs_of numbers messages m) ≡ Some state
    → report_at (accepted_of numbers messages m) t ≡ report_at (filter (is_near numbers.gap lo hi) (accepted_of numbers messages m)) t
last_near numbers messages t m lo hi from to state seen =
    by_legs (filter (holds t) (legs_between numbers.gap (accepted_of numbers messages m))) refl
  where
    by_legs : (legs : List Leg) → filter (holds t) (legs_between numbers.gap (accepted_of numbers messages m)) ≡ legs
        → report_at (accepted_of numbers messages m) t ≡ report_at (filter (is_near numbers.gap lo hi) (accepted_of numbers messages m)) t
    by_legs [] e =
        let none : state_at t (legs_of numbers messages m) ≡ None = state_held numbers messages t m ∙ ap (λ (legs : List Leg). option_map (state_on t) (last_or None legs)) e in
        absurd (cc)
    by_legs (leg ∷ legs) e =
        last_alike numbers.gap lo hi t from to (accepted_of numbers messages m) (in_time (accepted_of numbers messages m) (accepted_in_order numbers messages m)) leg legs e None None

-- Where no own ship is planned for, a report is in the window of lines where it is at most the gap from the ticks.
window_near : (scenario : Scenario) → scenario.own ≡ None → (report : Accepted)
    → is_in_window scenario report.time ≡ is_near scenario.log.gap scenario.window.start (window_end scenario.window) report
window_near scenario none report =
    ap (λ own. nat_le scenario.window.start (report.time + scenario.log.gap) && nat_le report.time (window_end scenario.window + reach_behind own scenario.log.gap)) none

in_window_near : (scenario : Scenario) → scenario.own ≡ None → (reports : List Accepted)
    → filter (λ (report : Accepted). is_in_window scenario report.time) reports ≡ filter (is_near scenario.log.gap scenario.window.start (window_end scenario.window)) reports
in_window_near scenario none reports =
    ap (λ (p : Accepted → Bool). filter p reports) (λ i report. window_near scenario none report i)

module _ (scenario : Scenario) (log : List ℕ) (start ticks behind more : ℕ) (none : scenario.own ≡ None) where
  abbrev earlier : Scenario
  earlier = with_window start ticks scenario

  abbrev later : Scenario
  later = with_window (start + behind * scenario.window.tick) more scenario

  same_time : (k : ℕ) → time_of_tick earlier.window (behind + k) ≡ time_of_tick later.window k
  same_time k = omega arith

  pub seen_alike : (mmsi : ℕ) → IsJudgedAlike earlier later log mmsi → IsSeenAlike behind (sightings_of earlier log) (sightings_of later log) mmsi
  seen_alike mmsi alike k in_later in_earlier =
      let long = sightings_length earlier log in
      let short = sightings_length later log in
      let t : ℕ = time_of_tick later.window k in
      let at : time_of_tick earlier.window (behind + k) ≡ t = same_time k in
      let within : k ≤ more = omega arith in
      let inside : behind + k ≤ ticks = omega arith in
      let below : k * scenario.window.tick ≤ more * scenario.window.tick = mul-le-mul_right scenario.window.tick within in
      let above : (behind + k) * scenario.window.tick ≤ ticks * scenario.window.tick = mul-le-mul_right scenario.window.tick inside in
      let messages : List Sent = sent earlier (lines_of log) in
      let others : List Sent = sent later (lines_of log) in
      let numbers : JudgingNumbers = numbers_of scenario in
      seen_state earlier log (behind + k) mmsi (omega arith)
      ∙ (ap (λ (time : ℕ). state_at time (legs_of numbers messages mmsi)) at
      ∙ (state_near numbers messages t mmsi later.window.start (window_end later.window) (omega arith) (omega arith)
      ∙ (ap (λ (reports : List Accepted). option_map (state_on t) (last_or None (filter (holds t) (legs_between numbers.gap reports))))
      (sym (in_window_near later none (accepted_of numbers messages mmsi)) ∙ (alike ∙ in_window_near earlier none (accepted_of numbers others mmsi)))
      ∙ (sym (state_near numbers others t mmsi earlier.window.start (window_end earlier.window) (omega arith) (omega arith))
      ∙ sym (seen_state later log k mmsi (omega arith))))))

  -- Where she is seen, her last report by then is the same in both windows.
  last_same : (mmsi t : ℕ) (state other : TickState) → IsJudgedAlike earlier later log mmsi → earlier.window.start ≤ t → t ≤ window_end earlier.window
      → later.window.start ≤ t → t ≤ window_end later.window
      → state_at t (legs_of (numbers_of scenario) (sent earlier (lines_of log)) mmsi) ≡ Some state
      → state_at t (legs_of (numbers_of scenario) (sent later (lines_of log)) mmsi) ≡ Some other
      → report_at (accepted_of (numbers_of scenario) (sent earlier (lines_of log)) mmsi) t ≡ report_at (accepted_of (numbers_of scenario) (sent later (lines_of log)) mmsi) t
  last_same mmsi t state other alike e_from e_to l_from l_to seen seen_too =
      let messages : List Sent = sent earlier (lines_of log) in
      let others : List Sent = sent later (lines_of log) in
      let numbers : JudgingNumbers = numbers_of scenario in
      last_near numbers messages t mmsi later.window.start (window_end later.window) l_from l_to state seen
      ∙ (ap (λ (reports : List Accepted). report_at reports t)
      (sym (in_window_near later none (accepted_of numbers messages mmsi)) ∙ (alike ∙ in_window_near earlier none (accepted_of numbers others mmsi)))
      ∙ sym (last_near numbers others t mmsi earlier.window.start (window_end earlier.window) e_from e_to other seen_too))

  pub ranked_alike : (mmsi : ℕ) → IsJudgedAlike earlier later log mmsi → IsTypedAlike earlier later log mmsi
      → IsRankedAlike behind (sightings_of earlier log) (sightings_of later log) mmsi
  ranked_alike mmsi alike typed k in_later in_earlier =
      let long = sightings_length earlier log in
      let short = sightings_length later log in
      let t : ℕ = time_of_tick later.window k in
      let at : time_of_tick earlier.window (behind + k) ≡ t = same_time k in
      let within : k ≤ more = omega arith in
      let inside : behind + k ≤ ticks = omega arith in
      let below : k * scenario.window.tick ≤ more * scenario.window.tick = mul-le-mul_right scenario.window.tick within in
      let above : (behind + k) * scenario.window.tick ≤ ticks * scenario.window.tick = mul-le-mul_right scenario.window.tick inside in
      let messages : List Sent = sent earlier (lines_of log) in
      let others : List Sent = sent later (lines_of log) in
      let numbers : JudgingNumbers = numbers_of scenario in
      let same_state : state_at t (legs_of numbers messages mmsi) ≡ state_at t (legs_of numbers others mmsi) =
      ap (λ (time : ℕ). state_at time (legs_of numbers messages mmsi)) (sym at)
      ∙ (sym (seen_state earlier log (behind + k) mmsi (omega arith)) ∙ (seen_alike mmsi alike k in_later in_earlier ∙ seen_state later log k mmsi (omega arith))) in
      seen_rank earlier log (behind + k) mmsi (omega arith)
      ∙ (ap (λ (time : ℕ). rank_where scenario.ranks (rank_at (noted messages) mmsi (accepted_of numbers messages mmsi) time) (state_at time (legs_of numbers messages mmsi))) at
      ∙ (ap (rank_where scenario.ranks (rank_at (noted messages) mmsi (accepted_of numbers messages mmsi) t)) same_state
      ∙ (same_where scenario.ranks (rank_at (noted messages) mmsi (accepted_of numbers messages mmsi) t) (rank_at (noted others) mmsi (accepted_of numbers others mmsi) t)
      (state_at t (legs_of numbers others mmsi))
      (λ counts state seen. same_rank (noted messages) (noted others) mmsi t (accepted_of numbers messages mmsi) (typed counts t (omega arith) (omega arith))
      ∙ rank_by_last (noted others) mmsi t (accepted_of numbers messages mmsi) (accepted_of numbers others mmsi)
      (last_same mmsi t state state alike (omega arith) (omega arith) (omega arith) (omega arith) (same_state ∙ seen) seen))
      ∙ sym (seen_rank later log k mmsi (omega arith)))))

  -- the numbers over a window's ticks are the scenario's with that window
  over_earlier : over (sightings_of earlier log) (audit_numbers scenario) ≡ audit_numbers earlier
  over_earlier =
      let long = sightings_length earlier log in
      let last : length (sightings_of earlier log) - 1 ≡ ticks = omega arith in
      ap (λ (n : ℕ). record (audit_numbers scenario) { last_tick = n }) last

  over_later : over (sightings_of later log) (audit_numbers scenario) ≡ audit_numbers later
  over_later =
      let long = sightings_length later log in
      let last : length (sightings_of later log) - 1 ≡ more = omega arith in
      ap (λ (n : ℕ). record (audit_numbers scenario) { last_tick = n }) last

  pub by_time : (row : Row) → IsJudgedAlike earlier later log (pair_of row).subject → IsJudgedAlike earlier later log (pair_of row).other → IsMeeting row
      → last_step_of row + 2 ≤ more → behind + last_step_of row + 2 ≤ ticks
      → IsReported earlier log (moved behind row)
      ↔ (IsReported later log row × BeginsAnew (audit_numbers scenario) (sightings_of earlier log) (pair_of row) (behind + first_step_of row))
  by_time row subject other is in_later in_earlier =
      let long = sightings_length earlier log in
      let short = sightings_length later log in
      let law : IsAuditRow (over (sightings_of earlier log) (audit_numbers scenario)) (sightings_of earlier log) (moved behind row)
      ↔ (IsAuditRow (over (sightings_of later log) (audit_numbers scenario)) (sightings_of later log) row
      × BeginsAnew (audit_numbers scenario) (sightings_of earlier log) (pair_of row) (behind + first_step_of row)) =
      meetings_of_windows (audit_numbers scenario) behind (sightings_of earlier log) (sightings_of later log) row
      (seen_alike (pair_of row).subject subject) (seen_alike (pair_of row).other other) is (omega arith) (omega arith) in
      subst (λ (n : AuditNumbers). IsAuditRow n (sightings_of earlier log) (moved behind row)
      ↔ (IsReported later log row × BeginsAnew (audit_numbers scenario) (sightings_of earlier log) (pair_of row) (behind + first_step_of row))) over_earlier
      (subst (λ (n : AuditNumbers). IsAuditRow (over (sightings_of earlier log) (audit_numbers scenario)) (sightings_of earlier log) (moved behind row)
      ↔ (IsAuditRow n (sightings_of later log) row × BeginsAnew (audit_numbers scenario) (sightings_of earlier log) (pair_of row) (behind + first_step_of row))) over_later law)

  pub all_by_time : (row : Row) → IsJudgedAlike earlier later log (pair_of row).subject → IsJudgedAlike earlier later log (pair_of row).other
      → IsTypedAlike earlier later log (pair_of row).subject → IsTypedAlike earlier later log (pair_of row).other
      → ComeIntoContactBehind behind (audit_numbers scenario) (sightings_of earlier log) (pair_of row)
      → last_step_of row + audit_reach (audit_numbers scenario) + 2 ≤ more → behind + last_step_of row + audit_reach (audit_numbers scenario) + 2 ≤ ticks
      → IsReported earlier log (moved behind row) ↔ IsReported later log row
  all_by_time row subject other subject_type other_type apart in_later in_earlier =
      let long = sightings_length earlier log in
      let short = sightings_length later log in
      let law : IsAuditRow (over (sightings_of earlier log) (audit_numbers scenario)) (sightings_of earlier log) (moved behind row)
      ↔ IsAuditRow (over (sightings_of later log) (audit_numbers scenario)) (sightings_of later log) row =
      rows_behind (audit_numbers scenario) behind (sightings_of earlier log) (sightings_of later log) row
      (seen_alike (pair_of row).subject subject) (seen_alike (pair_of row).other other)
      (ranked_alike (pair_of row).subject subject subject_type) (ranked_alike (pair_of row).other other other_type) apart (omega arith) (omega arith) in
      subst (λ (n : AuditNumbers). IsAuditRow n (sightings_of earlier log) (moved behind row) ↔ IsReported later log row) over_earlier
      (subst (λ (n : AuditNumbers). IsAuditRow (over (sightings_of earlier log) (audit_numbers scenario)) (sightings_of earlier log) (moved behind row)
      ↔ IsAuditRow n (sightings_of later log) row) over_later law)
