-- What is drawn from a seed, number by number.
use Rattle.std.proofs.Common.{◌≡◌, ℕ, zero, suc, ◌+◌, ◌*◌, ◌<◌, ◌≤◌, true, false, refl, sym, ap, ◌∙◌, arith, add-one}
use Rattle.std.proofs.Math.Nat.{mul-le-mul}
use Rattle.std.proofs.lemmas.Bool.Decides.{nat_tests}
use Rattle.std.specs.Prelude.{nat_le}
use Rattle.fixed_geometry.proofs.Greatest.{greatest_below-is}
use Rattle.fixed_geometry.specs.Bearing.{bearing_of}
use Rattle.drill_log.specs.DrillLog.{centred, next_state, root_of, speed_of, state_of, way_of}
use Rattle.drill_log.specs.Inner.VesselFigures.{vessel_of}
use Rattle.drill_log.specs.declared.vessel.Vessel.{Vessel}

pub state_more : (seed steps : ℕ) → state_of seed (steps + 1) ≡ next_state (state_of seed steps)
unfolding state_of
state_more seed steps = rw add-one refl

below_square : (n : ℕ) → n ≤ n * n
below_square zero = omega arith
below_square (suc n) = omega (arith, mul-le-mul {n₁ = 1} {m₁ = suc n} {n₂ = suc n} {m₂ = suc n} (omega arith) (omega arith))

at_most : (a n : ℕ) → a ≤ n → nat_le a n ≡ true
at_most a n h = grind (arith, nat_tests)

above : (a n : ℕ) → n < a → nat_le a n ≡ false
above a n h = grind (arith, nat_tests)

-- the root is what the two squares say
pub root_is : (n root : ℕ) → root * root ≤ n → n < (root + 1) * (root + 1) → root_of n ≡ root
root_is n root low high =
    greatest_below-is (n + 1) (λ r. nat_le (r * r) n) root (omega (arith, below_square root)) (at_most (root * root) n low)
    (λ j gt lt. above (j * j) n (
    let more : (root + 1) * (root + 1) ≤ j * j = mul-le-mul {n₁ = root + 1} {m₁ = root + 1} {n₂ = j} {m₂ = j} (omega arith) (omega arith) in omega arith
    ))

-- four states, one after the other
pub record AreNext (seed steps s1 s2 s3 s4 : ℕ) : Type 0 where
  pub first : s1 ≡ state_of seed (steps + 1)
  pub second : s2 ≡ state_of seed (steps + 2)
  pub third : s3 ≡ state_of seed (steps + 3)
  pub fourth : s4 ≡ state_of seed (steps + 4)

one_more : (seed steps more s t : ℕ) → s ≡ state_of seed steps → t ≡ next_state s → steps + 1 ≡ more → t ≡ state_of seed more
one_more seed steps more s t is next count = next ∙ ap next_state is ∙ sym (state_more seed steps) ∙ ap (state_of seed) count

pub four_states : (seed steps s0 s1 s2 s3 s4 : ℕ) → s0 ≡ state_of seed steps → s1 ≡ next_state s0 → s2 ≡ next_state s1 → s3 ≡ next_state s2 → s4 ≡ next_state s3
    → AreNext seed steps s1 s2 s3 s4
four_states seed steps s0 s1 s2 s3 s4 is e1 e2 e3 e4 =
    let first = one_more seed steps (steps + 1) s0 s1 is e1 refl in
    let second = one_more seed (steps + 1) (steps + 2) s1 s2 first e2 (omega arith) in
    let third = one_more seed (steps + 2) (steps + 3) s2 s3 second e3 (omega arith) in
    record { first = first; second = second; third = third; fourth = one_more seed (steps + 3) (steps + 4) s3 s4 third e4 (omega arith) }

-- the figures that four numbers give
pub record IsMade (mmsi s1 s2 s3 s4 : ℕ) (vessel : Vessel) : Type 0 where
  pub mmsi_is : vessel.mmsi ≡ mmsi
  pub north : vessel.north ≡ centred 20000 s1
  pub east : vessel.east ≡ centred 20000 s2
  pub way_north : vessel.way.y ≡ centred 1500 s3
  pub way_east : vessel.way.x ≡ centred 1500 s4
  pub speed : vessel.speed ≡ speed_of vessel.way
  pub course : vessel.course ≡ bearing_of vessel.way

pub made : (seed number s1 s2 s3 s4 : ℕ) (vessel : Vessel) → AreNext seed (4 * number) s1 s2 s3 s4 → IsMade (200000001 + number) s1 s2 s3 s4 vessel
    → vessel ≡ vessel_of seed number
unfolding vessel_of
made seed number s1 s2 s3 s4 vessel next is =
    let x : vessel.way.x ≡ (way_of seed number).x = is.way_east ∙ ap (centred 1500) next.fourth in
    let y : vessel.way.y ≡ (way_of seed number).y = is.way_north ∙ ap (centred 1500) next.third in
    let way : vessel.way ≡ way_of seed number = (λ i. record { x = x i; y = y i }) in
    let mmsi = is.mmsi_is in
    let north = is.north ∙ ap (centred 20000) next.first in
    let east = is.east ∙ ap (centred 20000) next.second in
    let speed = is.speed ∙ ap speed_of way in
    let course = is.course ∙ ap bearing_of way in
    (λ i. record {
      mmsi = mmsi i;
      north = north i;
      east = east i;
      way = way i;
      speed = speed i;
      course = course i;
    })
