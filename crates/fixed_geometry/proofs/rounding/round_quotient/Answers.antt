use Rattle.std.proofs.Common.{ℕ, pos, ◌≡◌, ◌+◌, ◌*◌, ◌<◌, ◌≤◌, ◌^◌, int_lt, Bool, true, false, ◌-ℤ◌, ◌*ℤ◌, ◌+ℤ◌, ℤ, unsigned_abs, arith, to_z, of_z, FitsSigned, ap, ap₂, sym, ◌∙◌}
use Rattle.std.specs.Int.{w64}
use Rattle.std.specs.Int.Signed.{quot_z, rem_z, mag_rem}
use Rattle.std.proofs.lemmas.Int.{ints, to_z-of_z}
use Rattle.fixed_geometry.specs.Rounding.{rounded}
use Rattle.fixed_geometry.proofs.ForCallers.{read}
use Rattle.fixed_geometry.proofs.RoundingDown.{cut_is_small, down_from_below, down_from_above}
use Rattle.fixed_geometry.proofs.rounding.round_quotient.Goals as goal

-- the number that is cut, and the one that cuts it
record AreRead (a r : ℤ) (b : ℕ) : Type 0 where
  number : to_z w64 (of_z w64 (to_z w64 (of_z w64 (pos 2 *ℤ to_z w64 (of_z w64 a))) +ℤ to_z w64 (of_z w64 r))) ≡ pos 2 *ℤ a +ℤ pos b
  divisor : to_z w64 (of_z w64 (pos 2 *ℤ to_z w64 (of_z w64 r))) ≡ pos (2 * b)
  quotient : to_z w64 (of_z w64 (quot_z (pos 2 *ℤ a +ℤ pos b) (pos (2 * b)))) ≡ quot_z (pos 2 *ℤ a +ℤ pos b) (pos (2 * b))
  remainder : to_z w64 (of_z w64 (rem_z (pos 2 *ℤ a +ℤ pos b) (pos (2 * b)))) ≡ rem_z (pos 2 *ℤ a +ℤ pos b) (pos (2 * b))
  less : FitsSigned w64 (quot_z (pos 2 *ℤ a +ℤ pos b) (pos (2 * b)) -ℤ pos 1)

number_is_small : (a : ℤ) (b : ℕ) → unsigned_abs (pos 2 *ℤ a +ℤ pos b) ≤ 2 * unsigned_abs a + b
number_is_small a b = grind (arith, ints)

twice_fits : (a : ℤ) → unsigned_abs a ≤ 2 ^ 61 → FitsSigned w64 (pos 2 *ℤ a)
twice_fits a small = record { sfits = grind (arith, ints, small) }

number_fits : (a : ℤ) (b : ℕ) → unsigned_abs a ≤ 2 ^ 61 → b < 2 ^ 32 → FitsSigned w64 (pos 2 *ℤ a +ℤ pos b)
number_fits a b small few = record { sfits = grind (arith, ints, number_is_small a b, small, few) }

cut_fits : (n : ℤ) (d : ℕ) → unsigned_abs n ≤ 2 ^ 62 + 2 ^ 32 → FitsSigned w64 (quot_z n (pos d))
cut_fits n d small = record { sfits = grind (arith, ints, cut_is_small n d, small) }

less_fits : (n : ℤ) (d : ℕ) → unsigned_abs n ≤ 2 ^ 62 + 2 ^ 32 → FitsSigned w64 (quot_z n (pos d) -ℤ pos 1)
less_fits n d small = record { sfits = grind (arith, ints, cut_is_small n d, small) }

are_read : (a r : ℤ) (b : ℕ) → r ≡ pos b → FitsSigned w64 a → unsigned_abs a ≤ 2 ^ 61 → b < 2 ^ 32 → AreRead a r b
are_read a r b e fits small few =
    let again : to_z w64 (of_z w64 r) ≡ pos b = read w64 r (pos b) (record { sfits = omega (arith, ints, e) }) e in
    let twice : to_z w64 (of_z w64 (pos 2 *ℤ to_z w64 (of_z w64 a))) ≡ pos 2 *ℤ a = rw (to_z-of_z w64 a fits) (to_z-of_z w64 (pos 2 *ℤ a) (twice_fits a small)) in
    let n = pos 2 *ℤ a +ℤ pos b in
    let few_bits : unsigned_abs n ≤ 2 ^ 62 + 2 ^ 32 = omega (arith, number_is_small a b, small, few) in
    record {
      number = rw (twice, again) (to_z-of_z w64 (pos 2 *ℤ a +ℤ pos b) (number_fits a b small few));
      divisor = rw again (to_z-of_z w64 (pos (2 * b)) (record { sfits = omega (arith, few) }));
      quotient = to_z-of_z w64 (quot_z n (pos (2 * b))) (cut_fits n (2 * b) few_bits);
      remainder = to_z-of_z w64 (rem_z n (pos (2 * b))) (record { sfits = omega (arith, mag_rem n (pos (2 * b)), (number_fits a b small few).sfits) });
      less = less_fits n (2 * b) few_bits;
    }

sign_is : (a r : ℤ) (b : ℕ) (sign : Bool) → AreRead a r b
    → int_lt (to_z w64 (of_z w64 (rem_z (to_z w64 (of_z w64 (to_z w64 (of_z w64 (pos 2 *ℤ to_z w64 (of_z w64 a))) +ℤ to_z w64 (of_z w64 r))))
    (to_z w64 (of_z w64 (pos 2 *ℤ to_z w64 (of_z w64 r))))))) (pos 0) ≡ sign
    → int_lt (rem_z (pos 2 *ℤ a +ℤ pos b) (pos (2 * b))) (pos 0) ≡ sign
sign_is a r b sign reads told =
    ap (λ (z : ℤ). int_lt z (pos 0)) (sym (ap₂ (λ (n d : ℤ). to_z w64 (of_z w64 (rem_z n d))) reads.number reads.divisor ∙ reads.remainder)) ∙ told

pub overflow_sub-result : goal.overflow_sub-result
overflow_sub-result c =
    let r = are_read c.args.a c.from-b.result c.args.b c.from-b.ensures c.ranges.a c.requires.a_small c.ranges.b.fits in
    rw (r.number, r.divisor, r.quotient) r.less

pub returns-then-twice-divisor-lt0 : goal.returns-then-twice-divisor-lt0
unfolding rounded
returns-then-twice-divisor-lt0 c =
    let n = pos 2 *ℤ c.args.a +ℤ pos c.args.b in
    let r = are_read c.args.a c.from-b.result c.args.b c.from-b.ensures c.ranges.a c.requires.a_small c.ranges.b.fits in
    rw (r.number, r.divisor, r.quotient) (to_z-of_z w64 (quot_z n (pos (2 * c.args.b)) -ℤ pos 1) r.less
    ∙ down_from_below n (2 * c.args.b) (omega (arith, c.requires.b_some)) (sign_is c.args.a c.from-b.result c.args.b true r c.if-twice-divisor-lt0.true))

pub returns-else-twice-divisor-lt0 : goal.returns-else-twice-divisor-lt0
unfolding rounded
returns-else-twice-divisor-lt0 c =
    let n = pos 2 *ℤ c.args.a +ℤ pos c.args.b in
    let r = are_read c.args.a c.from-b.result c.args.b c.from-b.ensures c.ranges.a c.requires.a_small c.ranges.b.fits in
    rw (r.number, r.divisor, r.quotient)
    (down_from_above n (2 * c.args.b) (omega (arith, c.requires.b_some)) (sign_is c.args.a c.from-b.result c.args.b false r c.if-twice-divisor-lt0.false))
