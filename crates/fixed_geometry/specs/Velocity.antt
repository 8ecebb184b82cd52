-- The velocity of a vessel's course and speed.
use Rattle.std.specs.Prelude.{ℕ, pos, ◌*ℤ◌}
use Rattle.fixed_geometry.specs.Rounding.{rounded}
use Rattle.fixed_geometry.specs.Compass.{sine_of, cosine_of}
use Rattle.fixed_geometry.specs.declared.point.Point.{Point}

-- A tenth of a knot is 185.2 metres per hour: 463 / 0.9 tenths of a millimetre per second.
unfoldable pub velocity_of : ℕ → ℕ → Point
velocity_of course speed = record {
  x = rounded (pos speed *ℤ sine_of course *ℤ pos 463) 900000;
  y = rounded (pos speed *ℤ cosine_of course *ℤ pos 463) 900000;
}
