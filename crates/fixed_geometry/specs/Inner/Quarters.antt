-- A vector by its quarter of the circle.
use Rattle.std.specs.Prelude.{◌≡◌, ◌+◌, ◌≤◌, ◌^◌, ◌≤ℤ◌, Some, pos, unsigned_abs}
use Rattle.fixed_geometry.specs.Bearing.{bearing_of, quarter_angle}
use Rattle.fixed_geometry.specs.declared.point.Point.{Point}
use Rattle.fixed_geometry.specs.declared.bearings.Quartered.{Quartered}

-- Neither component is negative or large.
pub record IsOfAQuarter (way : Quartered) : Type 0 where
  pub start : way.start ≤ 2700
  pub ahead : pos 0 ≤ℤ way.ahead
  pub ahead_small : unsigned_abs way.ahead ≤ 2 ^ 62
  pub starboard : pos 0 ≤ℤ way.starboard
  pub starboard_small : unsigned_abs way.starboard ≤ 2 ^ 62

-- The bearing is the quarter's start plus the angle within the quarter.
pub record IsInQuarter (r : Point) (way : Quartered) : Type 0 where
  pub of_a_quarter : IsOfAQuarter way
  pub bearing : bearing_of r ≡ Some (way.start + quarter_angle way.ahead way.starboard)
