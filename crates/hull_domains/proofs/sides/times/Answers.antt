use Rattle.std.proofs.Common.{ℕ, ◌≡◌, ◌*◌, ◌^◌, ◌<◌, ◌≤◌, ℤ, pos, ◌*ℤ◌, unsigned_abs, arith, to_z, of_z, FitsSigned, ap, ◌∙◌}
use Rattle.std.specs.Int.{w128}
use Rattle.std.proofs.lemmas.Int.{ints, to_z-of_z, unsigned_abs-mul, fits_signed_mul}
use Rattle.hull_domains.proofs.sides.times.Goals as goal

-- the factors as the code has them, and their product
record AreRead (z x : ℤ) (n : ℕ) : Type 0 where
  product : to_z w128 (of_z w128 z) *ℤ to_z w128 (of_z w128 x) ≡ z *ℤ pos n
  fits : FitsSigned w128 (z *ℤ pos n)

are_read : (z x : ℤ) (n : ℕ) → FitsSigned w128 z → x ≡ pos n → unsigned_abs z ≤ 140000000000000000000 → n < 2 ^ 60 → AreRead z x n
are_read z x n fits e small few =
    let again : to_z w128 (of_z w128 x) ≡ pos n = to_z-of_z w128 x (record { sfits = omega (arith, ints, e, few) }) ∙ e in
    record {
      product = rw (to_z-of_z w128 z fits, again);
      fits = fits_signed_mul w128 z (pos n) 140000000000000000000 (2 ^ 60) small (omega arith) (omega arith);
    }

factors : (c : goal.After-from) → AreRead c.args.z c.from.result c.args.n
factors c = are_read c.args.z c.from.result c.args.n c.ranges.z c.from.ensures c.requires.z_small c.requires.n_small

is_read : (c : goal.After-from) → to_z w128 (of_z w128 (to_z w128 (of_z w128 c.args.z) *ℤ to_z w128 (of_z w128 c.from.result))) ≡ c.args.z *ℤ pos c.args.n
is_read c = rw (factors c).product (to_z-of_z w128 (c.args.z *ℤ pos c.args.n) (factors c).fits)

pub overflow_mul-result : goal.overflow_mul-result
overflow_mul-result c = rw (factors c).product (factors c).fits

pub returns-clause-value : goal.returns-clause-value
returns-clause-value c = is_read c

pub returns-clause-size : goal.returns-clause-size
returns-clause-size c = ap unsigned_abs (is_read c) ∙ unsigned_abs-mul c.args.z (pos c.args.n)
