-- Shares by vessels: two logs that say the same about the two vessels of a pair.
use Rattle.std.specs.Prelude.{ℕ, ◌≡◌, List, true}
use Rattle.ranks.specs.VesselRanks.{rank_by_type}
use Rattle.log_lines.specs.LogLines.{lines_of}
use Rattle.log_lines.specs.SentLines.{sent}
use Rattle.log_lines.specs.ShipTypes.{noted}
use Rattle.scenario_values.specs.declared.values.Scenario.{Scenario}
use Rattle.traces.specs.Audited.{Sighting, rank_in, seen_state_at, sighting_at}
use Rattle.tracks.specs.VesselsHeld.{messages_of}

-- At each tick of the two windows a vessel is seen in the same state, or in neither, and has the same rank.
pub record IsSeenAs (ticks others : List Sighting) (mmsi : ℕ) : Type 0 where
  pub state : (k : ℕ) → seen_state_at ticks mmsi k ≡ seen_state_at others mmsi k
  pub rank : (k : ℕ) → rank_in mmsi (sighting_at ticks k) ≡ rank_in mmsi (sighting_at others k)

-- By both logs a vessel has sent the same messages at the same times. Where ranks count, her rank by ship type is also the same at each time.
pub record HasSentAlike (scenario : Scenario) (log other : List ℕ) (mmsi : ℕ) : Type 0 where
  pub messages : messages_of (sent scenario (lines_of log)) mmsi ≡ messages_of (sent scenario (lines_of other)) mmsi
  pub types : scenario.ranks ≡ true → (time : ℕ)
      → rank_by_type (noted (sent scenario (lines_of log))) mmsi time ≡ rank_by_type (noted (sent scenario (lines_of other))) mmsi time
