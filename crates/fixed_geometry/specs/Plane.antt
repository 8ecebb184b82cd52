-- Products of two vectors in the plane.
use Rattle.std.specs.Prelude.{ℤ, ◌+ℤ◌, ◌-ℤ◌, ◌*ℤ◌}
use Rattle.fixed_geometry.specs.declared.point.Point.{Point}

-- |a| |b| times the cosine of the angle between them
abbrev pub dot_of : Point → Point → ℤ
dot_of a b = a.x *ℤ b.x +ℤ a.y *ℤ b.y

-- |a| |b| times the sine of the angle from a to b, counted to port
abbrev pub turn_of : Point → Point → ℤ
turn_of a b = a.x *ℤ b.y -ℤ a.y *ℤ b.x

-- the square of the length
abbrev pub norm2_of : Point → ℤ
norm2_of a = dot_of a a
