use Rattle.std.proofs.Common.{ℤ, ◌*ℤ◌, ◌*◌, ◌≤◌, ◌^◌, unsigned_abs, lit<, arith, mul-le-mul_left}
use Rattle.std.specs.Int.{w64}
use Rattle.std.proofs.lemmas.Int.{to_z-of_z, fits_signed_mul, unsigned_abs-mul}
use Rattle.fixed_geometry.proofs.rounding.scale.Goals as goal

small_product : (a b : ℤ) → unsigned_abs b ≤ 1000000 → unsigned_abs (a *ℤ b) ≤ 1000000 * unsigned_abs a
small_product a b h = omega (arith, unsigned_abs-mul a b, mul-le-mul_left (unsigned_abs a) h)

pub returns-clause-value : goal.returns-clause-value
returns-clause-value c =
    let a = c.args.length in
    let b = c.args.millionths in
    rw (to_z-of_z w64 a c.ranges.length, to_z-of_z w64 b c.ranges.millionths)
    (to_z-of_z w64 (a *ℤ b) (fits_signed_mul w64 a b (2 ^ 38) 1000000 c.requires.length_small c.requires.millionths_small (lit< tt)))

pub returns-clause-small : goal.returns-clause-small
returns-clause-small c =
    let a = c.args.length in
    let b = c.args.millionths in
    rw (
      to_z-of_z w64 a c.ranges.length,
      to_z-of_z w64 b c.ranges.millionths,
      to_z-of_z w64 (a *ℤ b) (fits_signed_mul w64 a b (2 ^ 38) 1000000 c.requires.length_small c.requires.millionths_small (lit< tt)),
    )
    (small_product a b c.requires.millionths_small)
