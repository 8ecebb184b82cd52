-- How large the displacement from one point to another is.
use Rattle.std.proofs.Common.{ℕ, ◌*◌, ◌<◌, ℤ, ◌-ℤ◌, unsigned_abs, arith}
use Rattle.std.proofs.lemmas.Int.{ints}
use Rattle.fixed_geometry.specs.Sizes.{IsBelow}
use Rattle.fixed_geometry.specs.declared.point.Point.{Point}
use Rattle.fixed_geometry.specs.Displacement.{displacement}

component_below : (x y : ℤ) (n : ℕ) → unsigned_abs x < n → unsigned_abs y < n → unsigned_abs (y -ℤ x) < 2 * n
component_below x y n h k = omega (arith, ints)

change_below : (a0 b0 a1 b1 : ℤ) (n : ℕ) → unsigned_abs (a1 -ℤ a0) < n → unsigned_abs (b1 -ℤ b0) < n
    → unsigned_abs ((b1 -ℤ a1) -ℤ (b0 -ℤ a0)) < 2 * n
change_below a0 b0 a1 b1 n h k = omega (arith, ints)

pub displacement_small : (a b : Point) (n : ℕ) → IsBelow n a → IsBelow n b → IsBelow (2 * n) (displacement a b)
displacement_small a b n h k = record { x = component_below a.x b.x n h.x k.x; y = component_below a.y b.y n h.y k.y }

pub change_small : (a0 b0 a1 b1 : Point) (n : ℕ) → IsBelow n (displacement a0 a1) → IsBelow n (displacement b0 b1) → IsBelow (2 * n) (displacement (displacement a0 b0) (displacement a1 b1))
change_small a0 b0 a1 b1 n h k = record { x = change_below a0.x b0.x a1.x b1.x n h.x k.x; y = change_below a0.y b0.y a1.y b1.y n h.y k.y }
