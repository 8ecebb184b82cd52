-- Crossing ahead of the other vessel (Rule 15 of the COLREGs 1972).
use Rattle.std.specs.Prelude.{ℕ, Bool, ◌&&◌, ◌||◌, ℤ, pos, ◌+ℤ◌, ◌-ℤ◌, ◌*ℤ◌, int_le, int_lt}
use Rattle.fixed_geometry.specs.Compass.{unit_of}
use Rattle.fixed_geometry.specs.Plane.{dot_of, turn_of}
use Rattle.fixed_geometry.specs.declared.point.Point.{Point}
use Rattle.motion.specs.Steps.{RelativeMove}
use Rattle.sectors.specs.Class.{opposite}

-- A goes from one side of the line to the other, and ends at the second tick on it or across it: g0 and g1 are her
-- distances to port of the line.
abbrev pub crosses : ℤ → ℤ → Bool
crosses g0 g1 = (int_lt g0 (pos 0) && int_le (pos 0) g1) || (int_le g1 (pos 0) && int_lt (pos 0) g0)

-- Both are above 0, or both are below 0.
abbrev pub has_sign_of : ℤ → ℤ → Bool
has_sign_of a b = (int_lt (pos 0) a && int_lt (pos 0) b) || (int_lt a (pos 0) && int_lt b (pos 0))

-- The point at which she crosses is strictly ahead: f0 and f1 are her distances ahead at the two ticks.
abbrev pub crosses_ahead_by : ℤ → ℤ → ℤ → ℤ → Bool
crosses_ahead_by f0 g0 f1 g1 = crosses g0 g1 && has_sign_of (g0 *ℤ f1 -ℤ f0 *ℤ g1) (g0 -ℤ g1)

-- B's place relative to A at the second tick
abbrev pub end_point : RelativeMove → Point
end_point step = record { x = step.p.x +ℤ step.w.x; y = step.p.y +ℤ step.w.y }

-- with the line along u, the unit vector of B's direction, and A's points relative to B
abbrev pub crosses_ahead_along : Point → Point → Point → Bool
crosses_ahead_along u r0 r1 = crosses_ahead_by (dot_of u r0) (turn_of u r0) (dot_of u r1) (turn_of u r1)

-- A crosses the line ahead of B's bow within the step, if B has this direction.
unfoldable pub crosses_ahead : ℕ → RelativeMove → Bool
crosses_ahead direction step = crosses_ahead_along (unit_of direction) (opposite step.p) (opposite (end_point step))
