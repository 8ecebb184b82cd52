-- Motion in proportion to time.
use Rattle.std.specs.Prelude.{ℕ, ℤ, pos, ◌+ℤ◌, ◌-ℤ◌, ◌*ℤ◌}
use Rattle.fixed_geometry.specs.Rounding.{rounded}

-- after `since` of `whole` seconds of the move from `from` to `to`, to the nearest whole number
unfoldable pub between : ℤ → ℤ → ℕ → ℕ → ℤ
between from to since whole = from +ℤ rounded ((to -ℤ from) *ℤ pos since) whole
