-- A vessel that has sent alike by two logs is seen alike by both.
use Rattle.std.proofs.Common.{◌≡◌, ℕ, ◌+◌, ◌<◌, ◌≤◌, ◌⊎◌, inl, inr, List, sym, ap, ◌∙◌, arith}
use Rattle.std.specs.Prelude.{◌↔◌}
use Rattle.std.specs.List.{filter_map}
use Rattle.std.proofs.lemmas.List.{get_or_past}
use Rattle.audit_rows.specs.declared.row.Row.{Row}
use Rattle.log_lines.specs.JudgedLines.{numbers_of}
use Rattle.log_lines.specs.LogLines.{lines_of}
use Rattle.log_lines.specs.SentLines.{sent}
use Rattle.log_lines.specs.ShipTypes.{noted}
use Rattle.motion.specs.TickStates.{state_at}
use Rattle.ranks.specs.VesselRanks.{rank_at}
use Rattle.scenario_values.specs.Ticks.{time_of_tick}
use Rattle.scenario_values.specs.declared.values.Scenario.{Scenario}
use Rattle.sessions.specs.AuditReport.{sightings_of}
use Rattle.settling.specs.ScenarioAudit.{audit_numbers}
use Rattle.tracks.specs.AcceptedReports.{JudgingNumbers, accepted_list}
use Rattle.tracks.specs.JoinedReports.{legs_between}
use Rattle.tracks.specs.VesselsHeld.{Sent, accepted_of, legs_of, messages_of, reported_in}
use Rattle.tracks.specs.declared.accepted.Accepted.{Accepted}
use Rattle.traces.specs.Audited.{Sighting, nothing_seen, rank_in, seen_state_at, sighting_at, state_in}
use Rattle.laws.specs.Reported.{IsReported, pair_of}
use Rattle.laws.specs.Vessels.{HasSentAlike, IsSeenAs}
use Rattle.laws.proofs.SameVessels.{rows_of_two}
use Rattle.laws.proofs.SeenStates.{rank_where, same_rank, same_where, seen_rank, seen_state, sightings_length}

same_accepted : (numbers : JudgingNumbers) (messages others : List Sent) (m : ℕ) → messages_of messages m ≡ messages_of others m
    → accepted_of numbers messages m ≡ accepted_of numbers others m
unfolding accepted_of
same_accepted numbers messages others m e = ap (λ (mine : List Sent). accepted_list numbers (filter_map reported_in mine)) e

same_legs : (numbers : JudgingNumbers) (messages others : List Sent) (m : ℕ) → messages_of messages m ≡ messages_of others m → legs_of numbers messages m ≡ legs_of numbers others m
unfolding legs_of
same_legs numbers messages others m e = ap (legs_between numbers.gap) (same_accepted numbers messages others m e)

early : (m n : ℕ) → (m < n) ⊎ (n ≤ m)
early m n = grind arith

module _ (scenario : Scenario) (log other : List ℕ) (m : ℕ) (alike : HasSentAlike scenario log other m) where
  state_here : (k : ℕ) → k < scenario.window.ticks + 1 → seen_state_at (sightings_of scenario log) m k ≡ seen_state_at (sightings_of scenario other) m k
  state_here k lt =
      seen_state scenario log k m lt
      ∙ (ap (state_at (time_of_tick scenario.window k)) (same_legs (numbers_of scenario) (sent scenario (lines_of log)) (sent scenario (lines_of other)) m alike.messages)
      ∙ sym (seen_state scenario other k m lt))

  rank_here : (k : ℕ) → k < scenario.window.ticks + 1 → rank_in m (sighting_at (sightings_of scenario log) k) ≡ rank_in m (sighting_at (sightings_of scenario other) k)
  rank_here k lt =
      let time : ℕ = time_of_tick scenario.window k in
      let messages : List Sent = sent scenario (lines_of log) in
      let others : List Sent = sent scenario (lines_of other) in
      let numbers : JudgingNumbers = numbers_of scenario in
      seen_rank scenario log k m lt
      ∙ (ap (rank_where scenario.ranks (rank_at (noted messages) m (accepted_of numbers messages m) time))
      (ap (state_at time) (same_legs numbers messages others m alike.messages))
      ∙ (same_where scenario.ranks (rank_at (noted messages) m (accepted_of numbers messages m) time) (rank_at (noted others) m (accepted_of numbers others m) time)
      (state_at time (legs_of numbers others m))
      (λ counts state seen. same_rank (noted messages) (noted others) m time (accepted_of numbers messages m) (alike.types counts time)
      ∙ ap (λ (points : List Accepted). rank_at (noted others) m points time) (same_accepted numbers messages others m alike.messages))
      ∙ sym (seen_rank scenario other k m lt)))

  both_past : (k : ℕ) → scenario.window.ticks + 1 ≤ k → sighting_at (sightings_of scenario log) k ≡ sighting_at (sightings_of scenario other) k
  both_past k le =
      let long = sightings_length scenario log in
      let other_long = sightings_length scenario other in
      get_or_past (sightings_of scenario log) k nothing_seen (omega arith) ∙ sym (get_or_past (sightings_of scenario other) k nothing_seen (omega arith))

  pub seen_as : IsSeenAs (sightings_of scenario log) (sightings_of scenario other) m
  seen_as = record {
    state = λ k. elim (early k (scenario.window.ticks + 1)) [
      | inl within ↦ state_here k within
      | inr past ↦ ap (λ (s : Sighting). state_in m s.vessels) (both_past k past)
    ];
    rank = λ k. elim (early k (scenario.window.ticks + 1)) [
      | inl within ↦ rank_here k within
      | inr past ↦ ap (rank_in m) (both_past k past)
    ];
  }

pub by_vessels : (scenario : Scenario) (log other : List ℕ) (row : Row) → HasSentAlike scenario log other (pair_of row).subject
    → HasSentAlike scenario log other (pair_of row).other → IsReported scenario log row ↔ IsReported scenario other row
by_vessels scenario log other row subject second =
    rows_of_two (audit_numbers scenario) (sightings_of scenario log) (sightings_of scenario other) row
    (sightings_length scenario log ∙ sym (sightings_length scenario other))
    (seen_as scenario log other (pair_of row).subject subject) (seen_as scenario log other (pair_of row).other second)
