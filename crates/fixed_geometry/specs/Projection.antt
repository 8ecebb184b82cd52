-- The projection of latitudes and longitudes, in ten thousandths of a minute, into the plane around a reference.
use Rattle.std.specs.Prelude.{ℕ, ◌^◌, ◌≤◌, ◌&&◌, nat_le, if◌then◌else◌, Option, Some, None, ℤ, pos, ◌-ℤ◌, ◌*ℤ◌, unsigned_abs}
use Rattle.fixed_geometry.specs.Rounding.{rounded}
use Rattle.fixed_geometry.specs.Circle.{shorter_arc}
use Rattle.fixed_geometry.specs.Compass.{cosine_of}
use Rattle.fixed_geometry.specs.declared.projection.TheConstants.{REGION_SIZE}
use Rattle.fixed_geometry.specs.declared.point.Point.{Point}

-- the tenths of a degree nearest to a latitude's size
abbrev pub tenths_of : ℤ → ℕ
tenths_of latitude = unsigned_abs (rounded (pos (unsigned_abs latitude)) 60000)

-- A minute of latitude is 1852 metres, and one of longitude is shorter by the cosine of the reference's latitude.
abbrev pub east_of : ℤ → ℤ → ℤ → ℤ
east_of latitude0 longitude0 longitude =
    rounded (shorter_arc 108000000 (longitude -ℤ longitude0) *ℤ pos 1852 *ℤ cosine_of (tenths_of latitude0)) (10 ^ 6)

abbrev pub north_of : ℤ → ℤ → ℤ
north_of latitude0 latitude = (latitude -ℤ latitude0) *ℤ pos 1852

-- the region: at most 2 degrees of latitude, and 222,240 metres to the east or the west, from the reference
pub record IsInRegion (latitude0 longitude0 latitude longitude : ℤ) : Type 0 where
  pub north : unsigned_abs (latitude -ℤ latitude0) ≤ 1200000
  pub east : unsigned_abs (east_of latitude0 longitude0 longitude) ≤ REGION_SIZE

-- the point of a place in the region
unfoldable pub projection_of : ℤ → ℤ → ℤ → ℤ → Option Point
projection_of latitude0 longitude0 latitude longitude =
    let east = east_of latitude0 longitude0 longitude in
    if nat_le (unsigned_abs (latitude -ℤ latitude0)) 1200000 && nat_le (unsigned_abs east) REGION_SIZE
    then Some (record { x = east; y = north_of latitude0 latitude })
    else None
