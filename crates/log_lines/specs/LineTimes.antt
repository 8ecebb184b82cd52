-- The times of a log's lines. A stamp is the time of a line's tag block (NMEA 0183 4.10), in seconds since 1970.
use Rattle.std.specs.Prelude.{ℕ, ◌+◌, max, Bool, false, ◌&&◌, nat_le, nat_lt, List, [], ◌∷◌, filter, Option, Some, None, unwrap_or}
use Rattle.std.specs.List.{filter_map, last_or}
use Rattle.aivdm.specs.ReadingOf.{reading_of}
use Rattle.scenario_values.specs.declared.own_part.OwnPart.{OwnPart}
use Rattle.scenario_values.specs.declared.values.Scenario.{Scenario}
use Rattle.scenario_values.specs.declared.values.Window.{Window}
use Rattle.scenario_values.specs.Ticks.{window_end}

abbrev pub stamp_of : List ℕ → Option ℕ
stamp_of line = (reading_of line).stamp

abbrev pub stamps_of : List (List ℕ) → List ℕ
stamps_of lines = filter_map stamp_of lines

-- The time of the last of these lines: its stamp, the nearest earlier one, or the window's start.
unfoldable pub time_of : Scenario → List (List ℕ) → ℕ
time_of scenario lines = unwrap_or (last_or None (stamps_of lines)) scenario.window.start

-- the seconds that the window of lines lasts after the last tick: a gap, or 0 for a plan of own ship, because that tick
-- is now
abbrev pub reach_behind : Option OwnPart → ℕ → ℕ
reach_behind None gap = gap
reach_behind (Some own) gap = 0

-- The window of lines: from `before` seconds before the first tick to `behind` after the last.
abbrev pub lies_in : Window → ℕ → ℕ → ℕ → Bool
lies_in window before behind time = nat_le window.start (time + before) && nat_le time (window_end window + behind)

abbrev pub is_in_window : Scenario → ℕ → Bool
is_in_window scenario time = lies_in scenario.window scenario.log.gap (reach_behind scenario.own scenario.log.gap) time

unfoldable pub greatest : List ℕ → Option ℕ
greatest [] = None
greatest (n ∷ ns) = Some (max n (unwrap_or (greatest ns) n))

-- The clock after these lines: the greatest of their stamps that is in the window of lines.
unfoldable pub clock_of : Scenario → List (List ℕ) → Option ℕ
clock_of scenario lines = greatest (filter (is_in_window scenario) (stamps_of lines))

-- A time is late if the clock is past it by more than the slack.
abbrev pub is_late : ℕ → Option ℕ → ℕ → Bool
is_late slack None time = false
is_late slack (Some clock) time = nat_lt (time + slack) clock
