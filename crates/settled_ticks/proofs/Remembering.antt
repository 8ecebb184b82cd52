-- Who is remembered at the latest tick is remembered at the next one, too.
use Rattle.std.proofs.Common.{ℕ, ◌-◌, ◌≤◌, arith}
use Rattle.scenario_values.specs.Ticks.{time_of_tick}
use Rattle.scenario_values.specs.declared.values.Scenario.{Scenario}
use Rattle.tracks.specs.Standing.{Remembers}
use Rattle.tracks.specs.declared.keeping.Keeping.{Keeping}
use Rattle.tracks.proofs.ForCallers.{remembers_later}
use Rattle.settled_ticks.specs.Standing.{RemembersTicks, latest_time}
use Rattle.settled_ticks.proofs.EarlierTicks.{earlier_tick}

pub remembers_next : (keeping : Keeping) (scenario : Scenario) (count next : ℕ) → count ≤ next → RemembersTicks keeping scenario count → RemembersTicks keeping scenario next
remembers_next keeping scenario count next le remembers =
    remembers_later keeping (latest_time scenario count) (latest_time scenario next) (earlier_tick scenario.window (next - 1) (count - 1) (omega arith)) remembers

-- also at its own time
pub remembers_tick : (keeping : Keeping) (scenario : Scenario) (count : ℕ) → RemembersTicks keeping scenario count → Remembers keeping (time_of_tick scenario.window count)
remembers_tick keeping scenario count remembers =
    remembers_later keeping (latest_time scenario count) (time_of_tick scenario.window count) (earlier_tick scenario.window count (count - 1) (omega arith)) remembers
