-- The times of a window's ticks, in seconds since 1970.
use Rattle.std.specs.Prelude.{ℕ, ◌+◌, ◌*◌}
use Rattle.scenario_values.specs.declared.values.Window.{Window}

-- the time of a tick
abbrev pub time_of_tick : Window → ℕ → ℕ
time_of_tick window k = window.start + k * window.tick

-- the time of the last tick
abbrev pub window_end : Window → ℕ
window_end window = time_of_tick window window.ticks
