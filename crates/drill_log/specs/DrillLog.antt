-- The log of the drill. Forty vessels start around the reference and keep their courses and speeds. Each reports at
-- tick 0 and at each minute after it. Start places, courses and speeds are drawn from a seed. Arcs are in ten
-- thousandths of a minute, positive to the north and to the east.
use Rattle.std.specs.Prelude.{ℕ, zero, suc, ◌+◌, ◌*◌, ◌/◌, ◌%◌, ◌^◌, nat_le, List, [], ◌∷◌, ◌++◌, map, flat_map, Option, Some, None, ℤ, pos, ◌+ℤ◌, ◌-ℤ◌, ◌*ℤ◌, unsigned_abs}
use Rattle.std.specs.List.{range_with_len}
use Rattle.aivdm.specs.SentenceWriting.{line_of}
use Rattle.ais_messages.specs.MessageFields.{place_of}
use Rattle.ais_messages.specs.PositionWriting.{encoded_of}
use Rattle.ais_messages.specs.declared.message.PositionReport.{PositionReport}
use Rattle.fixed_geometry.specs.Bearing.{bearing_of, greatest_below}
use Rattle.fixed_geometry.specs.Place.{Place}
use Rattle.fixed_geometry.specs.Plane.{norm2_of}
use Rattle.fixed_geometry.specs.declared.point.Point.{Point}
use Rattle.scenario_values.specs.declared.values.Scenario.{Scenario}
use Rattle.scenario_values.specs.declared.values.Window.{Window}

-- ---- the drawn numbers

-- a linear congruential generator
abbrev pub next_state : ℕ → ℕ
next_state state = (state * 1103515245 + 12345) % 2 ^ 31

-- its state after this many steps from the seed
unfoldable pub state_of : ℕ → ℕ → ℕ
state_of seed zero = seed
state_of seed (suc steps) = next_state (state_of seed steps)

-- the number of a state, from minus `half` to `half`, without the lowest eight bits of the state
abbrev pub centred : ℕ → ℕ → ℤ
centred half state = pos ((state / 256) % (2 * half + 1)) -ℤ pos half

abbrev pub drawn : ℕ → ℕ → ℕ → ℤ
drawn half seed steps = centred half (state_of seed steps)

-- ---- a vessel, by her number from 0

-- her start place relative to the reference
abbrev pub start_of : ℕ → ℕ → Place
start_of seed vessel = record {
  latitude = drawn 20000 seed (4 * vessel + 1);
  longitude = drawn 20000 seed (4 * vessel + 2);
}

-- her displacement per minute, `y` to the north and `x` to the east
abbrev pub way_of : ℕ → ℕ → Point
way_of seed vessel = record {
  x = drawn 1500 seed (4 * vessel + 4);
  y = drawn 1500 seed (4 * vessel + 3);
}

-- the greatest whole number whose square is at most n
abbrev pub root_of : ℕ → ℕ
root_of n = greatest_below (n + 1) (λ root. nat_le (root * root) n)

-- the speed of such a displacement, in tenths of a knot: a minute of arc per hour is a knot
abbrev pub speed_of : Point → ℕ
speed_of way = 6 * root_of (unsigned_abs (norm2_of way)) / 100

-- ---- her reports, by the minutes since tick 0

-- a latitude or a longitude, from that of the reference and that of her start
abbrev pub coordinate_after : ℤ → ℤ → ℤ → ℕ → ℤ
coordinate_after reference start way minutes = reference +ℤ start +ℤ pos minutes *ℤ way

-- her place, if it is on the Earth
abbrev pub place_after : Place → ℕ → ℕ → ℕ → Option (ℤ × ℤ)
place_after reference seed vessel minutes =
    place_of (coordinate_after reference.latitude (start_of seed vessel).latitude (way_of seed vessel).y minutes)
    (coordinate_after reference.longitude (start_of seed vessel).longitude (way_of seed vessel).x minutes)

-- a message 1 from a vessel under way, at second 0; the vessels' identities follow one another
unfoldable pub vessel_report : Place → ℕ → ℕ → ℕ → PositionReport
vessel_report reference seed vessel minutes = record {
  kind = 1;
  mmsi = 200000001 + vessel;
  status = 0;
  place = place_after reference seed vessel minutes;
  sog = Some (speed_of (way_of seed vessel));
  cog = bearing_of (way_of seed vessel);
  heading = None;
  second = 0;
}

-- ---- the log

pub record TimedReport : Type 0 where
  pub time : ℕ
  pub report : PositionReport

-- the whole minutes of a window
abbrev pub minutes_in : Window → ℕ
minutes_in window = window.ticks * window.tick / 60

-- the reports this many minutes after tick 0, in the order of the vessels
abbrev pub reports_at : Scenario → ℕ → ℕ → List TimedReport
reports_at scenario seed minutes =
    map (λ vessel. record {
      time = scenario.window.start + 60 * minutes;
      report = vessel_report scenario.reference seed vessel minutes;
    }) (range_with_len 0 40)

-- all reports in the order of their times
abbrev pub drill_reports : Scenario → ℕ → List TimedReport
drill_reports scenario seed = flat_map (reports_at scenario seed) (range_with_len 0 (minutes_in scenario.window + 1))

-- the line of a report: a sentence on channel A (65) with its time, and LF (10)
abbrev pub report_line : TimedReport → List ℕ
report_line timed = line_of (Some timed.time) (encoded_of timed.report) 65 ++ 10 ∷ []

unfoldable pub drill_log_of : Scenario → ℕ → List ℕ
drill_log_of scenario seed = flat_map report_line (drill_reports scenario seed)
