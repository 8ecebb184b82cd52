-- The sizes of a point's components.
use Rattle.std.specs.Prelude.{ℕ, ◌≤◌, ◌<◌, unsigned_abs}
use Rattle.fixed_geometry.specs.declared.point.Point.{Point}

-- each component is at most this large in size
pub record IsWithin (size : ℕ) (p : Point) : Type 0 where
  pub x : unsigned_abs p.x ≤ size
  pub y : unsigned_abs p.y ≤ size

-- each component is less in size
pub record IsBelow (size : ℕ) (p : Point) : Type 0 where
  pub x : unsigned_abs p.x < size
  pub y : unsigned_abs p.y < size
