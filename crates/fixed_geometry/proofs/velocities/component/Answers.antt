use Rattle.std.proofs.Common.{ℕ, ◌≡◌, ◌*◌, ◌≤◌, ℤ, pos, negsuc, ◌+ℤ◌, ◌*ℤ◌, unsigned_abs, arith, rules, mul-le-mul, to_z, of_z, FitsSigned, ap, ap₂, ◌∙◌}
use Rattle.std.specs.Int.{w64, int_div_euclid}
use Rattle.std.proofs.Math.Nat.{le_trans}
use Rattle.std.proofs.lemmas.Int.{ints, to_z-of_z, unsigned_abs-mul, fits_signed_mul}
use Rattle.fixed_geometry.specs.Rounding.{rounded}
use Rattle.fixed_geometry.proofs.ForCallers.{read}
use Rattle.fixed_geometry.proofs.velocities.component.Goals as goal

scaled_small : (n : ℕ) (m : ℤ) → n ≤ 1022 → unsigned_abs m ≤ 1000000 → unsigned_abs (pos n *ℤ m) ≤ 1022000000
scaled_small n m p q = rw (unsigned_abs-mul (pos n) m) (mul-le-mul p q)

whole_small : (z : ℤ) → unsigned_abs z ≤ 1022000000 → unsigned_abs (z *ℤ pos 463) ≤ 473186000000
whole_small z h = omega (arith, unsigned_abs-mul z (pos 463))

down_small : (z : ℤ) → unsigned_abs z ≤ 946372900000 → unsigned_abs (int_div_euclid z (pos 1800000)) ≤ 525763
down_small (pos n) h = omega (arith, h)
down_small (negsuc n) h = omega (arith, h)

rounded_small : (z : ℤ) → unsigned_abs z ≤ 473186000000 → unsigned_abs (rounded z 900000) ≤ 525763
unfolding rounded
rounded_small z h = down_small (pos 2 *ℤ z +ℤ pos 900000) (omega (arith, ints))

turned : (z : ℤ) → pos 463 *ℤ z ≡ z *ℤ pos 463
turned z = omega (arith, ints)

-- what is rounded, from what the code scales: `m` by `r`, which is the speed `n`, to `s`
record IsScaled (r m s : ℤ) (n : ℕ) : Type 0 where
  product : pos 463 *ℤ to_z w64 (of_z w64 s) ≡ pos n *ℤ m *ℤ pos 463
  fits : FitsSigned w64 (pos n *ℤ m *ℤ pos 463)
  small : unsigned_abs (pos n *ℤ m *ℤ pos 463) ≤ 473186000000

is_scaled : (r m s : ℤ) (n : ℕ) → n ≤ 1022 → unsigned_abs m ≤ 1000000 → FitsSigned w64 m → r ≡ pos n → FitsSigned w64 s
    → s ≡ to_z w64 (of_z w64 r) *ℤ to_z w64 (of_z w64 m) → IsScaled r m s n
is_scaled r m s n few near m_fits r_is s_fits s_is =
    let length_is : to_z w64 (of_z w64 r) ≡ pos n = read w64 r (pos n) (record { sfits = omega (arith, ints, r_is, few) }) r_is in
    let near_all : unsigned_abs (pos n *ℤ m) ≤ 1022000000 = scaled_small n m few near in
    record {
      product = ap (λ (z : ℤ). pos 463 *ℤ z) (read w64 s _ s_fits (s_is ∙ ap₂ ◌*ℤ◌ length_is (to_z-of_z w64 m m_fits))) ∙ turned (pos n *ℤ m);
      fits = fits_signed_mul w64 (pos n *ℤ m) (pos 463) 1022000000 463 near_all (omega arith) (omega arith);
      small = whole_small (pos n *ℤ m) near_all;
    }

scaled : (c : goal.After-scale) → IsScaled c.from.result c.args.millionths c.scale.result c.args.speed
scaled c =
    is_scaled c.from.result c.args.millionths c.scale.result c.args.speed c.requires.speed_small c.requires.millionths_small c.ranges.millionths c.from.ensures (search rules) c.scale.ensures.value

pub overflow_mul-scale : goal.overflow_mul-scale
overflow_mul-scale c = rw (scaled c).product (scaled c).fits

pub round_quotient-requires : goal.round_quotient-requires
round_quotient-requires c = record {
  a_small = rw ((scaled c).product, to_z-of_z w64 _ (scaled c).fits) (le_trans (scaled c).small (omega arith));
  b_some = omega arith;
}

rounds : (c : goal.After-round_quotient) → to_z w64 (of_z w64 c.round_quotient.result) ≡ rounded (pos c.args.speed *ℤ c.args.millionths *ℤ pos 463) 900000
rounds c =
    let s =
    is_scaled c.from.result c.args.millionths c.scale.result c.args.speed c.requires.speed_small c.requires.millionths_small c.ranges.millionths c.from.ensures (search rules) c.scale.ensures.value in
    read w64 c.round_quotient.result _ (search rules) (c.round_quotient.ensures ∙ ap (λ (z : ℤ). rounded z 900000) (rw s.product (to_z-of_z w64 _ s.fits)))

pub returns-clause-value : goal.returns-clause-value
returns-clause-value c = rounds c

pub returns-clause-small : goal.returns-clause-small
returns-clause-small c =
    let scaled : ℤ = pos c.args.speed *ℤ c.args.millionths in
    rw (rounds c) (rounded_small (scaled *ℤ pos 463) (whole_small scaled (scaled_small c.args.speed c.args.millionths c.requires.speed_small c.requires.millionths_small)))
