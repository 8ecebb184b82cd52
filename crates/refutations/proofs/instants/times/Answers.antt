use Rattle.std.proofs.Common.{ℕ, ℤ, FitsSigned, ◌<◌, ◌≤◌, ◌*ℤ◌, ◌^◌, pos, unsigned_abs, lit<, ◌∙◌, arith}
use Rattle.std.specs.Int.{w128}
use Rattle.std.proofs.lemmas.Int.{to_z-of_z, fits_signed_mul, unsigned_abs-mul}
use Rattle.refutations.proofs.instants.times.Goals as goal

fits : (a : ℕ) (z : ℤ) → a < 2 ^ 60 → unsigned_abs z ≤ 2 ^ 61 → FitsSigned w128 (pos a *ℤ z)
fits a z below small = fits_signed_mul w128 (pos a) z (2 ^ 60) (2 ^ 61) (omega (arith, below)) small (lit< tt)

pub overflow_mul-result : goal.overflow_mul-result
overflow_mul-result c =
    let factor = to_z-of_z w128 c.from.result (record { sfits = c.from.type_inv }) ∙ c.from.ensures in
    rw (factor, to_z-of_z w128 c.args.z c.ranges.z) (fits c.args.a c.args.z c.requires.a_small c.requires.z_small)

pub returns-clause-value : goal.returns-clause-value
returns-clause-value c =
    let factor = to_z-of_z w128 c.from.result (record { sfits = c.from.type_inv }) ∙ c.from.ensures in
    rw (factor, to_z-of_z w128 c.args.z c.ranges.z)
    (to_z-of_z w128 (pos c.args.a *ℤ c.args.z) (fits c.args.a c.args.z c.requires.a_small c.requires.z_small))

pub returns-clause-size : goal.returns-clause-size
returns-clause-size c =
    let factor = to_z-of_z w128 c.from.result (record { sfits = c.from.type_inv }) ∙ c.from.ensures in
    rw (
      factor,
      to_z-of_z w128 c.args.z c.ranges.z,
      to_z-of_z w128 (pos c.args.a *ℤ c.args.z) (fits c.args.a c.args.z c.requires.a_small c.requires.z_small),
    )
    (unsigned_abs-mul (pos c.args.a) c.args.z)
