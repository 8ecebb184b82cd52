-- The scenario of a session.
use Rattle.std.specs.Prelude.{None, if◌then◌else◌}
use Rattle.scenario_values.specs.declared.values.Scenario.{Scenario}
use Rattle.tasks.specs.Modes.{needs_own}
use Rattle.tasks.specs.declared.mode.Mode.{Mode}

-- The values that a mode uses: those of own ship only if it needs her. Without her the window of lines ends a gap after the last tick.
abbrev pub scenario_for : Mode → Scenario → Scenario
scenario_for mode scenario = if needs_own mode then scenario else record scenario { own = None }
