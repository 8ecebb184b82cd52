-- Each report of a drill is one of a ship in its ranges.
use Rattle.std.proofs.Common.{◌≡◌, ℕ, zero, suc, ◌+◌, ◌*◌, ◌/◌, ◌%◌, ◌<◌, ◌≤◌, Bool, true, false, ◌&&◌, List, [], ◌∷◌, All, IfSome, Option, Some, None, if◌then◌else◌, inl, inr, ◌⊎◌, refl, arith, mod-lt, ℤ, pos, ◌+ℤ◌, ◌-ℤ◌, ◌*ℤ◌, neg_ℤ, unsigned_abs}
use Rattle.std.proofs.Math.Nat.{mul-le-mul}
use Rattle.std.proofs.lemmas.Bool.{cases_lt, cond_both}
use Rattle.std.proofs.lemmas.Bool.Decides.{nat_tests}
use Rattle.std.proofs.lemmas.Int.{ints, unsigned_abs-mul}
use Rattle.std.proofs.lemmas.List.Elements.{All-append, All-cons, All-head, All-map, All-nil, All-tail}
use Rattle.std.specs.Prelude.{nat_le, int_lt, int_le}
use Rattle.std.specs.List.{range_with_len, flat_map}
use Rattle.ais_messages.specs.MessageFields.{place_of, IsReport}
use Rattle.fixed_geometry.specs.Bearing.{bearing_of, greatest_below, has_turned, quarter_angle}
use Rattle.fixed_geometry.specs.Place.{Place}
use Rattle.fixed_geometry.specs.Plane.{norm2_of}
use Rattle.fixed_geometry.specs.declared.point.Point.{Point}
use Rattle.scenario_values.specs.declared.values.Scenario.{Scenario}
use Rattle.scenario_values.specs.declared.values.Window.{Window}
use Rattle.drill_log.specs.DrillFacts.{IsDrillReport}
use Rattle.drill_log.specs.DrillLog.{centred, drill_reports, minutes_in, coordinate_after, vessel_report, reports_at, root_of, speed_of, start_of, state_of, way_of, TimedReport}

-- ---- a number that is drawn

centred_parts : (half n r : ℕ) → r < 2 * half + 1 → unsigned_abs (pos r -ℤ pos half) ≤ half
centred_parts half n r lt = omega (arith, ints)

pub centred_small : (half state : ℕ) → unsigned_abs (centred half state) ≤ half
centred_small half state = centred_parts half state ((state / 256) % (2 * half + 1)) (mod-lt (state / 256) (omega arith))

-- ---- the speed

-- it passes the test, or none does
greatest_passes : (n : ℕ) (test : ℕ → Bool) → (test (greatest_below n test) ≡ true) ⊎ (greatest_below n test ≡ 0)
unfolding greatest_below
greatest_passes zero test = inr refl
greatest_passes (suc n) test =
    cond_both (test n) n (greatest_below n test) (λ k. (test k ≡ true) ⊎ (k ≡ 0)) (λ passes. inl passes) (λ fails. greatest_passes n test)

greatest_lt : (n : ℕ) (test : ℕ → Bool) → 0 < n → greatest_below n test < n
unfolding greatest_below
greatest_lt zero test some = absurd (omega arith)
greatest_lt (suc n) test some = cond_both (test n) n (greatest_below n test) (λ k. k < suc n) (λ passes. omega arith) (λ fails. later n)
  where
    later : (m : ℕ) → greatest_below m test < suc m
    later zero = omega arith
    later (suc m) = cond_both (test m) m (greatest_below m test) (λ k. k < suc (suc m)) (λ passes. omega arith) (λ fails. omega (arith, later m))

le_from : (a n : ℕ) → nat_le a n ≡ true → a ≤ n
le_from a n h = grind (arith, nat_tests)

root_small : (root : ℕ) → root * root ≤ 4500000 → root ≤ 2121
root_small root h =
    elim (cases_lt root 2122) [
      | inl small ↦ omega arith
      | inr large ↦ absurd (let more : 2122 * 2122 ≤ root * root = mul-le-mul {n₁ = 2122} {m₁ = 2122} {n₂ = root} {m₂ = root} large large in omega arith)
    ]

root_of-small : (n : ℕ) → n ≤ 4500000 → root_of n ≤ 2121
root_of-small n few =
    elim (greatest_passes (n + 1) (λ r. nat_le (r * r) n)) [
      | inl passes ↦ root_small (root_of n) (let h = le_from (root_of n * root_of n) n passes in omega arith)
      | inr none ↦ omega (arith, none)
    ]

square_small : (z : ℤ) → unsigned_abs z ≤ 1500 → unsigned_abs (z *ℤ z) ≤ 2250000
square_small z small = rw (unsigned_abs-mul z z) (mul-le-mul {n₁ = unsigned_abs z} {m₁ = unsigned_abs z} {n₂ = 1500} {m₂ = 1500} small small)

sum_small : (a b : ℤ) → unsigned_abs a ≤ 2250000 → unsigned_abs b ≤ 2250000 → unsigned_abs (a +ℤ b) ≤ 4500000
sum_small a b s t = omega (arith, ints)

pub speed_small : (way : Point) → unsigned_abs way.x ≤ 1500 → unsigned_abs way.y ≤ 1500 → speed_of way < 1023
speed_small way x y =
    let root = root_of-small (unsigned_abs (norm2_of way)) (sum_small (way.x *ℤ way.x) (way.y *ℤ way.y) (square_small way.x x) (square_small way.y y)) in
    tenths (root_of (unsigned_abs (norm2_of way))) root
  where
    tenths : (root : ℕ) → root ≤ 2121 → 6 * root / 100 < 1023
    tenths root small = omega arith

-- ---- the course

quarter_below : (n e : ℤ) → quarter_angle n e < 900
unfolding quarter_angle
quarter_below n e = greatest_lt 900 (has_turned n e) (omega arith)

abbrev IsCourse : Option ℕ → Type 0
IsCourse course = IfSome course (λ c. c < 3600)

one_quarter : (b : Bool) (k : ℕ) (rest : Option ℕ) → k < 3600 → IsCourse rest → IsCourse (if b then Some k else rest)
one_quarter true k rest lt later = lt
one_quarter false k rest lt later = later

pub course_below : (way : Point) → IfSome (bearing_of way) (λ course. course < 3600)
unfolding bearing_of
course_below way =
    let first : quarter_angle way.y way.x < 3600 = omega (arith, quarter_below way.y way.x) in
    let second : 900 + quarter_angle way.x (neg_ℤ way.y) < 3600 = omega (arith, quarter_below way.x (neg_ℤ way.y)) in
    let third : 1800 + quarter_angle (neg_ℤ way.y) (neg_ℤ way.x) < 3600 = omega (arith, quarter_below (neg_ℤ way.y) (neg_ℤ way.x)) in
    let fourth : 2700 + quarter_angle (neg_ℤ way.x) way.y < 3600 = omega (arith, quarter_below (neg_ℤ way.x) way.y) in
    let last : IsCourse None = tt in
    one_quarter (int_lt (pos 0) way.y && int_le (pos 0) way.x) (quarter_angle way.y way.x) _ first
    (one_quarter (int_lt (pos 0) way.x && int_le way.y (pos 0)) (900 + quarter_angle way.x (neg_ℤ way.y)) _ second
    (one_quarter (int_lt way.y (pos 0) && int_le way.x (pos 0)) (1800 + quarter_angle (neg_ℤ way.y) (neg_ℤ way.x)) _ third
    (one_quarter (int_lt way.x (pos 0) && int_le (pos 0) way.y) (2700 + quarter_angle (neg_ℤ way.x) way.y) None fourth last)))

-- ---- the place

both : (a b : Bool) → a && b ≡ true → (a ≡ true) × (b ≡ true)
both true true h = (refl, refl)
both true false h = absurd cc
both false b h = absurd cc

pub place_in_range : (latitude longitude : ℤ)
    → IfSome (place_of latitude longitude) (λ place. (unsigned_abs place.0 ≤ 54000000) × (unsigned_abs place.1 ≤ 108000000))
place_in_range latitude longitude =
    cond_both (nat_le (unsigned_abs latitude) 54000000 && nat_le (unsigned_abs longitude) 108000000) (Some (latitude, longitude)) None
    (λ o. IfSome o (λ (place : ℤ × ℤ). (unsigned_abs place.0 ≤ 54000000) × (unsigned_abs place.1 ≤ 108000000)))
    (λ here. let parts = both _ _ here in (le_from _ _ parts.0, le_from _ _ parts.1)) (λ _. tt)

-- ---- the reports

pub report_in_range : (reference : Place) (seed vessel minutes : ℕ) → vessel < 40 → IsReport (vessel_report reference seed vessel minutes)
unfolding vessel_report
report_in_range reference seed vessel minutes few = record {
  ship_low = omega arith;
  ship_high = omega arith;
  status_range = omega arith;
  place_range = place_in_range (coordinate_after reference.latitude (start_of seed vessel).latitude (way_of seed vessel).y minutes)
      (coordinate_after reference.longitude (start_of seed vessel).longitude (way_of seed vessel).x minutes);
  sog_range = speed_small (way_of seed vessel) (centred_small 1500 (state_of seed (4 * vessel + 4))) (centred_small 1500 (state_of seed (4 * vessel + 3)));
  cog_range = course_below (way_of seed vessel);
  heading_range = tt;
  second_range = omega arith;
}

-- ---- all of them

range_below : (P : ℕ → Type 0) (a n : ℕ) → ((k : ℕ) → k < a + n → P k) → All P (range_with_len a n)
range_below P a zero h = All-nil P
range_below P a (suc n) h = All-cons P a (range_with_len (a + 1) n) (h a (omega arith)) (range_below P (a + 1) n (λ k lt. h k (omega arith)))

all_flat : {X : Type 0} (P : X → Type 0) (f : ℕ → List X) (numbers : List ℕ) → All (λ k. All P (f k)) numbers → All P (flat_map f numbers)
all_flat P f [] all = All-nil P
all_flat P f (n ∷ ns) all =
    let Q = λ (k : ℕ). All P (f k) in All-append P (f n) (flat_map f ns) (All-head Q n ns all) (all_flat P f ns (All-tail Q n ns all))

minutes_time : (window : Window) (minutes : ℕ) → minutes < minutes_in window + 1 → 60 * minutes ≤ window.ticks * window.tick
minutes_time window minutes lt = product (window.ticks * window.tick) lt
  where
    product : (seconds : ℕ) → minutes < seconds / 60 + 1 → 60 * minutes ≤ seconds
    product seconds h = omega arith

timed_at : Scenario → ℕ → ℕ → ℕ → TimedReport
timed_at scenario seed minutes vessel = record { time = scenario.window.start + 60 * minutes; report = vessel_report scenario.reference seed vessel minutes }

one_report : (scenario : Scenario) (seed minutes vessel : ℕ) → minutes < minutes_in scenario.window + 1 → vessel < 40
    → IsDrillReport scenario.window (timed_at scenario seed minutes vessel)
unfolding timed_at vessel_report
one_report scenario seed minutes vessel lt few = record {
  ranges = report_in_range scenario.reference seed vessel minutes few;
  kind = refl;
  mmsi_from = omega arith;
  mmsi_to = omega arith;
  time_from = omega arith;
  time_to = omega (arith, minutes_time scenario.window minutes lt);
}

reports_in : (scenario : Scenario) (seed minutes : ℕ) → minutes < minutes_in scenario.window + 1 → All (IsDrillReport scenario.window) (reports_at scenario seed minutes)
unfolding timed_at
reports_in scenario seed minutes lt =
    All-map (IsDrillReport scenario.window) (timed_at scenario seed minutes) (range_with_len 0 40)
    (range_below (λ vessel. IsDrillReport scenario.window (timed_at scenario seed minutes vessel)) 0 40 (λ vessel few. one_report scenario seed minutes vessel lt few))

from_zero : (k n : ℕ) → k < 0 + n → k < n
from_zero k n lt = omega arith

pub all_reports : (scenario : Scenario) (seed : ℕ) → All (IsDrillReport scenario.window) (drill_reports scenario seed)
all_reports scenario seed =
    all_flat (IsDrillReport scenario.window) (reports_at scenario seed) (range_with_len 0 (minutes_in scenario.window + 1))
    (range_below (λ minutes. All (IsDrillReport scenario.window) (reports_at scenario seed minutes)) 0 (minutes_in scenario.window + 1)
    (λ minutes lt. reports_in scenario seed minutes (from_zero minutes (minutes_in scenario.window + 1) lt)))
