use Rattle.std.proofs.Common.{◌≡◌, ℕ, List, map, take}
use Rattle.log_lines.specs.SentLines.{sent}
use Rattle.log_lines.specs.ShipTypes.{noted}
use Rattle.log_lines.specs.Standing.{StandsFor as JudgeStandsFor}
use Rattle.ranks.specs.Standing.{StandsFor as RanksStandFor}
use Rattle.scenario_values.specs.declared.values.Scenario.{Scenario}
use Rattle.settled_ticks.specs.Sightings.{vessel_rank}
use Rattle.settled_ticks.proofs.vessel_ranks.rank_all.Given as goal

-- the ranks of the vessels so far
abbrev pub invariant-loop-vessel : goal.invariant-loop-vessel
invariant-loop-vessel l = (scenario : Scenario) (lines : List (List ℕ)) → JudgeStandsFor l.judge scenario lines → RanksStandFor l.types (noted (sent scenario lines))
    → l.ranks.items ≡ map (vessel_rank scenario (sent scenario lines) l.time) (take l.vessel-index l.seen)
