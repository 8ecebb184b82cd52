-- The ticks that no later line of a log can change.
use Rattle.std.specs.Prelude.{ℕ, ◌+◌, ◌<◌, ◌≤◌, List, IsSomeAnd}
use Rattle.log_lines.specs.LineTimes.{clock_of}
use Rattle.scenario_values.specs.declared.values.Scenario.{Scenario}
use Rattle.scenario_values.specs.Ticks.{time_of_tick}

-- The tick is in the window, and the clock after the lines is past it by more than the gap and the slack: a later
-- message in time comes more than the gap after the tick.
pub record IsSettled (scenario : Scenario) (lines : List (List ℕ)) (i : ℕ) : Type 0 where
  pub within : i ≤ scenario.window.ticks
  pub past : IsSomeAnd (clock_of scenario lines) (λ clock. time_of_tick scenario.window i + scenario.log.gap + scenario.log.slack < clock)
