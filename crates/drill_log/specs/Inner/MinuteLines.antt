-- The rest of the log of a drill while it is made.
use Rattle.std.specs.Prelude.{ℕ, ◌+◌, ◌-◌, ◌*◌, List, ◌++◌, flat_map}
use Rattle.std.specs.List.{range_with_len}
use Rattle.fixed_geometry.specs.Place.{Place}
use Rattle.drill_log.specs.DrillLog.{report_line}
use Rattle.drill_log.specs.Inner.VesselFigures.{report_by}
use Rattle.drill_log.specs.declared.minute_log.MinuteLog.{MinuteLog}
use Rattle.drill_log.specs.declared.vessel.Vessel.{Vessel}

-- the lines of these vessels' reports this many minutes after a time
abbrev pub lines_at : Place → ℕ → List Vessel → ℕ → List ℕ
lines_at reference start vessels minutes = flat_map (λ vessel. report_line (record { time = start + 60 * minutes; report = report_by vessel reference minutes })) vessels

-- the lines of the minutes not made yet
abbrev pub unmade : MinuteLog → List ℕ
unmade log = flat_map (lines_at log.reference log.start log.vessels.items) (range_with_len log.made (log.reports - log.made))

-- the bytes left to read: of the lines made last, and of those not made yet
abbrev pub left_of : MinuteLog → List ℕ
left_of log = log.block.left ++ unmade log
