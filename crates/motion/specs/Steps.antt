-- Steps of two vessels.
use Rattle.fixed_geometry.specs.declared.point.Point.{Point}

-- the displacement from one vessel to the other at the beginning, and its change to the end
pub record RelativeMove : Type 0 where
  pub p : Point
  pub w : Point
