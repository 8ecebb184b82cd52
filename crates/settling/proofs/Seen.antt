-- What is seen at the ticks, one by one.
use Rattle.std.proofs.Common.{◌≡◌, ℕ, ◌+◌, ◌<◌, ◌≤◌, List, ◌++◌, length, sym, ◌∙◌, arith}
use Rattle.std.proofs.lemmas.List.FromFn.{get_or-map-range_with_len, length-map-range_with_len}
use Rattle.log_lines.specs.SentLines.{sent}
use Rattle.scenario_values.specs.declared.values.Scenario.{Scenario}
use Rattle.settled_ticks.specs.Settled.{IsSettled}
use Rattle.settled_ticks.specs.Sightings.{seen_first, sighted, sighting_by}
use Rattle.settled_ticks.proofs.ForCallers.{what_is_settled_stays}
use Rattle.traces.specs.Audited.{nothing_seen, sighting_at}
use Rattle.tracks.specs.VesselsHeld.{Sent}

module _ (scenario : Scenario) where
  pub sighted_count : (messages : List Sent) → length (sighted scenario messages) ≡ scenario.window.ticks + 1
  sighted_count messages = length-map-range_with_len (sighting_by scenario messages) 0 (scenario.window.ticks + 1)

  sighted_at : (messages : List Sent) (k : ℕ) → k ≤ scenario.window.ticks → sighting_at (sighted scenario messages) k ≡ sighting_by scenario messages k
  sighted_at messages k le =
      get_or-map-range_with_len (sighting_by scenario messages) 0 (scenario.window.ticks + 1) k k nothing_seen (omega arith) (omega arith)

  pub first_count : (messages : List Sent) (s : ℕ) → length (seen_first scenario messages s) ≡ s
  first_count messages s = length-map-range_with_len (sighting_by scenario messages) 0 s

  -- The first ticks are seen as all are.
  pub first_seen : (messages : List Sent) (s k : ℕ) → k < s → k ≤ scenario.window.ticks
      → sighting_at (seen_first scenario messages s) k ≡ sighting_at (sighted scenario messages) k
  first_seen messages s k lt le =
      get_or-map-range_with_len (sighting_by scenario messages) 0 s k k nothing_seen lt (omega arith) ∙ sym (sighted_at messages k le)

  pub settled_seen : (lines more : List (List ℕ)) (k : ℕ) → IsSettled scenario lines k
      → sighting_at (sighted scenario (sent scenario (lines ++ more))) k ≡ sighting_at (sighted scenario (sent scenario lines)) k
  settled_seen lines more k h =
      sighted_at (sent scenario (lines ++ more)) k h.within ∙ (what_is_settled_stays scenario lines more k h ∙ sym (sighted_at (sent scenario lines) k h.within))
