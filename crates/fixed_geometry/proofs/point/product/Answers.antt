use Rattle.std.proofs.Common.{◌≡◌, ◌≤◌, ◌^◌, ℤ, ◌*ℤ◌, unsigned_abs, arith, mul-le-mul, to_z, of_z, FitsSigned, ap, ap₂, ◌∙◌}
use Rattle.std.specs.Int.{w64, w128}
use Rattle.std.proofs.lemmas.Int.{ints, to_z-of_z, unsigned_abs-mul, fits_signed_mul}
use Rattle.fixed_geometry.proofs.ForCallers.{read}
use Rattle.fixed_geometry.proofs.point.product.Goals as goal

-- a factor, once it is widened
widened : (a r : ℤ) → FitsSigned w64 a → r ≡ to_z w64 (of_z w64 a) → to_z w128 (of_z w128 r) ≡ a
widened a r fits h =
    let e : r ≡ a = h ∙ to_z-of_z w64 a fits in
    read w128 r a (record { sfits = omega (arith, ints, e, fits.sfits) }) e

product_fits : (a b : ℤ) → unsigned_abs a ≤ 2 ^ 62 → unsigned_abs b ≤ 2 ^ 62 → FitsSigned w128 (a *ℤ b)
product_fits a b p q = fits_signed_mul w128 a b (2 ^ 62) (2 ^ 62) p q (omega arith)

factors : (c : goal.After-from-2) → to_z w128 (of_z w128 c.from.result) *ℤ to_z w128 (of_z w128 c.from-2.result) ≡ c.args.a *ℤ c.args.b
factors c = ap₂ ◌*ℤ◌ (widened c.args.a c.from.result c.ranges.a c.from.ensures) (widened c.args.b c.from-2.result c.ranges.b c.from-2.ensures)

is_read : (c : goal.After-from-2) → to_z w128 (of_z w128 (to_z w128 (of_z w128 c.from.result) *ℤ to_z w128 (of_z w128 c.from-2.result))) ≡ c.args.a *ℤ c.args.b
is_read c = rw (factors c) (to_z-of_z w128 (c.args.a *ℤ c.args.b) (product_fits c.args.a c.args.b c.requires.a_small c.requires.b_small))

pub overflow_mul-result : goal.overflow_mul-result
overflow_mul-result c = rw (factors c) (product_fits c.args.a c.args.b c.requires.a_small c.requires.b_small)

pub returns-clause-value : goal.returns-clause-value
returns-clause-value c = is_read c

pub returns-clause-size : goal.returns-clause-size
returns-clause-size c = ap unsigned_abs (is_read c) ∙ unsigned_abs-mul c.args.a c.args.b

pub returns-clause-small : goal.returns-clause-small
returns-clause-small c = rw (is_read c, unsigned_abs-mul c.args.a c.args.b) (mul-le-mul c.requires.a_small c.requires.b_small)
