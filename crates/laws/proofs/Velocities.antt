-- A velocity by a course and a speed that can be reported is no greater than the greatest.
use Rattle.std.proofs.Common.{ℕ, zero, suc, ◌-◌, ◌/◌, ◌%◌, ◌≤◌, ℤ, pos, negsuc, ◌+ℤ◌, ◌*ℤ◌, neg_ℤ, unsigned_abs, mul-le-mul, subst, arith}
use Rattle.std.specs.Int.{int_div_euclid}
use Rattle.std.proofs.lemmas.Int.{ints, unsigned_abs-mul}
use Rattle.fixed_geometry.specs.Compass.{quarter_of, quarters_further, unit_of, sine_of, cosine_of}
use Rattle.fixed_geometry.specs.Rounding.{rounded}
use Rattle.fixed_geometry.specs.Sizes.{IsWithin}
use Rattle.fixed_geometry.specs.Velocity.{velocity_of}
use Rattle.fixed_geometry.specs.declared.point.Point.{Point}
use Rattle.fixed_geometry.proofs.Table.{quarter_cosine, quarter_sine, sine_small}

-- ---- the compass

quarter_small : (k : ℕ) → k ≤ 900 → IsWithin 1000000 (quarter_of k)
quarter_small k le = record {
  x = subst (λ (z : ℤ). unsigned_abs z ≤ 1000000) (quarter_sine k le) (sine_small k);
  y = subst (λ (z : ℤ). unsigned_abs z ≤ 1000000) (quarter_cosine k le) (sine_small (900 - k));
}

negated : (z : ℤ) → unsigned_abs z ≤ 1000000 → unsigned_abs (neg_ℤ z) ≤ 1000000
negated z h = omega (arith, ints)

turned : (n : ℕ) (p : Point) → IsWithin 1000000 p → IsWithin 1000000 (quarters_further n p)
turned zero p h = h
turned (suc n) p h = let before = turned n p h in record { x = before.y; y = negated (quarters_further n p).x before.x }

unit_small : (k : ℕ) → IsWithin 1000000 (unit_of k)
unfolding unit_of
unit_small k = turned (k / 900) (quarter_of (k % 900)) (quarter_small (k % 900) (omega arith))

-- ---- one component

scaled : (n : ℕ) (m : ℤ) → n ≤ 1022 → unsigned_abs m ≤ 1000000 → unsigned_abs (pos n *ℤ m) ≤ 1022000000
scaled n m p q = rw (unsigned_abs-mul (pos n) m) (mul-le-mul p q)

whole : (z : ℤ) → unsigned_abs z ≤ 1022000000 → unsigned_abs (z *ℤ pos 463) ≤ 473186000000
whole z h = omega (arith, unsigned_abs-mul z (pos 463))

divided : (z : ℤ) → unsigned_abs z ≤ 946372900000 → unsigned_abs (int_div_euclid z (pos 1800000)) ≤ 525763
divided (pos n) h = omega (arith, h)
divided (negsuc n) h = omega (arith, h)

nearest : (z : ℤ) → unsigned_abs z ≤ 473186000000 → unsigned_abs (rounded z 900000) ≤ 525763
unfolding rounded
nearest z h = divided (pos 2 *ℤ z +ℤ pos 900000) (omega (arith, ints))

component : (speed : ℕ) (m : ℤ) → speed ≤ 1022 → unsigned_abs m ≤ 1000000 → unsigned_abs (rounded (pos speed *ℤ m *ℤ pos 463) 900000) ≤ 525763
component speed m slow small = nearest (pos speed *ℤ m *ℤ pos 463) (whole (pos speed *ℤ m) (scaled speed m slow small))

pub velocity_small : (course speed : ℕ) → speed ≤ 1022 → IsWithin 525763 (velocity_of course speed)
unfolding velocity_of
velocity_small course speed slow =
    let unit = unit_small course in
    record { x = component speed (sine_of course) slow unit.x; y = component speed (cosine_of course) slow unit.y }
