-- The state of the times of the lines so far.
use Rattle.std.specs.Prelude.{ℕ, ◌≡◌, ◌<◌, ◌^◌, Bool, ◌&&◌, nat_le, max, List, Option, Some, None, if◌then◌else◌}
use Rattle.std.specs.List.{last_or}
use Rattle.log_lines.specs.LineTimes.{clock_of, is_in_window, is_late, stamps_of}
use Rattle.log_lines.specs.declared.outcome.LineOutcome.{LineOutcome}
use Rattle.log_lines.specs.declared.outcome.LineOutcome.TheVariants as outcome
use Rattle.log_lines.specs.declared.line_times.LineTimes.{LineTimes}
use Rattle.log_lines.specs.declared.line_times.LineWindow.{LineWindow}
use Rattle.scenario_values.specs.declared.values.Scenario.{Scenario}

-- The time is neither before the first nor after the last time of the window of lines.
abbrev pub is_between : LineWindow → ℕ → Bool
is_between window time = nat_le window.first time && nat_le time window.last

-- The times are judged by the scenario's window and slack, and the nearest stamp and the clock are those of these lines.
pub record KeepsTimes (times : LineTimes) (scenario : Scenario) (lines : List (List ℕ)) : Type 0 where
  pub window : (time : ℕ) → time < 2 ^ 64 → is_between times.window time ≡ is_in_window scenario time
  pub start : times.start ≡ scenario.window.start
  pub slack : times.slack ≡ scenario.log.slack
  pub nearest : times.nearest ≡ last_or None (stamps_of lines)
  pub clock : times.clock ≡ clock_of scenario lines

-- the clock after a stamp that is in the window of lines
abbrev pub at_least : ℕ → Option ℕ → ℕ
at_least stamp None = stamp
at_least stamp (Some clock) = max stamp clock

-- the clock after one more stamp, which may be in the window of lines or not
abbrev pub clock_behind : Bool → Option ℕ → ℕ → Option ℕ
clock_behind within clock stamp = if within then Some (at_least stamp clock) else clock

-- the state after a line with this stamp, or without one
abbrev pub times_behind : LineTimes → Option ℕ → LineTimes
times_behind times None = times
times_behind times (Some stamp) = record times {
  nearest = Some stamp;
  clock = clock_behind (is_between times.window stamp) times.clock stamp;
}

abbrev pub nearest_of : Option ℕ → Option ℕ → Option ℕ
nearest_of None nearest = nearest
nearest_of (Some stamp) nearest = Some stamp

-- why a sentence of this time is not heard
abbrev pub untimely_by : LineTimes → ℕ → Option LineOutcome
untimely_by times time =
    if is_between times.window time then (if is_late times.slack times.clock time then Some outcome.Late else None)
    else Some outcome.Outside
