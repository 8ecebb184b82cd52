-- Displacements from one point of the plane to another.
use Rattle.std.specs.Prelude.{◌-ℤ◌}
use Rattle.fixed_geometry.specs.declared.point.Point.{Point}

-- the displacement from a to b: b minus a
abbrev pub displacement : Point → Point → Point
displacement a b = record { x = b.x -ℤ a.x; y = b.y -ℤ a.y }
