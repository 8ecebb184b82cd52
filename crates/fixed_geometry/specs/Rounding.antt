-- Rounding a quotient to a whole number.
use Rattle.std.specs.Prelude.{ℕ, ◌*◌, ℤ, pos, ◌+ℤ◌, ◌*ℤ◌}
use Rattle.std.specs.Int.{int_div_euclid}

-- the whole number nearest to a / b, and the greater one if two are equally near: floor((2a + b) / (2b)), for b above 0
unfoldable pub rounded : ℤ → ℕ → ℤ
rounded a b = int_div_euclid (pos 2 *ℤ a +ℤ pos b) (pos (2 * b))
