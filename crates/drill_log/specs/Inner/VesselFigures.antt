-- The stored figures of a vessel of the drill.
use Rattle.std.specs.Prelude.{ℕ, ◌+◌, ◌≤◌, ◌<◌, IfSome, Some, None, unsigned_abs}
use Rattle.ais_messages.specs.MessageFields.{place_of}
use Rattle.ais_messages.specs.declared.message.PositionReport.{PositionReport}
use Rattle.fixed_geometry.specs.Bearing.{bearing_of}
use Rattle.fixed_geometry.specs.Place.{Place}
use Rattle.fixed_geometry.specs.Sizes.{IsWithin}
use Rattle.drill_log.specs.DrillLog.{coordinate_after, speed_of, start_of, way_of}
use Rattle.drill_log.specs.declared.vessel.Vessel.{Vessel}

unfoldable pub vessel_of : ℕ → ℕ → Vessel
vessel_of seed vessel = record {
  mmsi = 200000001 + vessel;
  north = (start_of seed vessel).latitude;
  east = (start_of seed vessel).longitude;
  way = way_of seed vessel;
  speed = speed_of (way_of seed vessel);
  course = bearing_of (way_of seed vessel);
}

-- her report after this many minutes
unfoldable pub report_by : Vessel → Place → ℕ → PositionReport
report_by vessel reference minutes = record {
  kind = 1;
  mmsi = vessel.mmsi;
  status = 0;
  place = place_of (coordinate_after reference.latitude vessel.north vessel.way.y minutes) (coordinate_after reference.longitude vessel.east vessel.way.x minutes);
  sog = Some vessel.speed;
  cog = vessel.course;
  heading = None;
  second = 0;
}

-- the figures are in their ranges
pub record IsVessel (vessel : Vessel) : Type 0 where
  pub mmsi_from : 200000000 ≤ vessel.mmsi
  pub mmsi_to : vessel.mmsi ≤ 799999999
  pub north : unsigned_abs vessel.north ≤ 20000
  pub east : unsigned_abs vessel.east ≤ 20000
  pub way : IsWithin 1500 vessel.way
  pub speed : vessel.speed < 1023
  pub course : IfSome vessel.course (λ course. course < 3600)
