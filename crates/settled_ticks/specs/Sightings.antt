-- The sightings at the ticks of a scenario's window: the vessels seen, and their ranks if ranks count.
use Rattle.std.specs.Prelude.{ℕ, ◌+◌, map, List, [], if◌then◌else◌}
use Rattle.std.specs.List.{range_with_len}
use Rattle.motion.specs.declared.leg.TickState.{TickState}
use Rattle.ranks.specs.VesselRanks.{rank_at}
use Rattle.ranks.specs.declared.rank.Rank.{Rank}
use Rattle.traces.specs.Audited.{SeenVessels, Sighting}
use Rattle.log_lines.specs.JudgedLines.{numbers_of}
use Rattle.log_lines.specs.ShipTypes.{noted}
use Rattle.scenario_values.specs.declared.values.Scenario.{Scenario}
use Rattle.scenario_values.specs.Ticks.{time_of_tick}
use Rattle.tracks.specs.SeenVessels.{seen_of}
use Rattle.tracks.specs.VesselsHeld.{Sent, accepted_of}

-- the rank of a vessel at a time, by the messages
unfoldable pub vessel_rank : Scenario → List Sent → ℕ → (ℕ × TickState) → Rank
vessel_rank scenario messages time vessel = rank_at (noted messages) vessel.0 (accepted_of (numbers_of scenario) messages vessel.0) time

-- the ranks of these vessels there, in the same order, if ranks count in the scenario; otherwise none
abbrev pub ranks_of : Scenario → List Sent → ℕ → SeenVessels → List Rank
ranks_of scenario messages time vessels = if scenario.ranks then map (vessel_rank scenario messages time) vessels else []

-- the vessels seen at a time, by the messages, with their ranks
abbrev pub seen_ranked : Scenario → List Sent → ℕ → SeenVessels → Sighting
seen_ranked scenario messages time vessels = record { vessels = vessels; ranks = ranks_of scenario messages time vessels }

-- the sighting at a tick of the window, by the messages
unfoldable pub sighting_by : Scenario → List Sent → ℕ → Sighting
sighting_by scenario messages k =
    let time = time_of_tick scenario.window k in
    seen_ranked scenario messages time (seen_of (numbers_of scenario) messages time)

-- the sighting at each tick of the window
abbrev pub sighted : Scenario → List Sent → List Sighting
sighted scenario messages = map (sighting_by scenario messages) (range_with_len 0 (scenario.window.ticks + 1))

-- the sightings at the first ticks
abbrev pub seen_first : Scenario → List Sent → ℕ → List Sighting
seen_first scenario messages k = map (sighting_by scenario messages) (range_with_len 0 k)
