-- If own ship turns and changes speed as fast as can be, she takes the ordered course and speed at once.
use Rattle.std.proofs.Common.{◌≡◌, ◌∙◌, ℕ, zero, suc, ◌+◌, ◌<◌, ◌≤◌, List, ℤ, pos, neg_ℤ, ◌+ℤ◌, ◌-ℤ◌, unsigned_abs, refl, arith, add-one, ap}
use Rattle.std.specs.Int.{int_rem_euclid}
use Rattle.std.proofs.lemmas.Int.{ints}
use Rattle.fixed_geometry.specs.Bearing.{swing_of}
use Rattle.fixed_geometry.specs.Circle.{shorter_arc}
use Rattle.lattice.specs.Grids.{Grid}
use Rattle.lattice.specs.OwnMotion.{choice_in_force, course_change, direction_after, direction_by, hastened, held, ordered_course, ordered_speed, speed_after, speed_change, turned, TakesOrdersAtOnce}

-- what is no more than the rate stays as it is
pub held_small : (rate : ℕ) (z : ℤ) → unsigned_abs z ≤ rate → held (neg_ℤ (pos rate)) (pos rate) z ≡ z
held_small rate z h = grind (arith, ints)

held_speed : (z : ℤ) → unsigned_abs (held (pos 0) (pos 1022) z) ≤ 1022
held_speed z = grind (arith, ints)

hastened_whole : (v o : ℕ) → v ≤ 1022 → o ≤ 1022 → hastened 1022 v o ≡ o
unfolding hastened
hastened_whole v o h k =
    let small : unsigned_abs (pos o -ℤ pos v) ≤ 1022 = omega (arith, ints) in
    let back : pos v +ℤ (pos o -ℤ pos v) ≡ pos o = omega (arith, ints) in
    rw (held_small 1022 (pos o -ℤ pos v) small, back) refl

direction_below : (d : ℕ) (z : ℤ) → direction_by d z < 3600
direction_below d z = grind (arith, ints)

pub rem_same : (o : ℕ) → o < 3600 → unsigned_abs (int_rem_euclid (pos o) (pos 3600)) ≡ o
rem_same o h = grind arith

rem_more : (o : ℕ) → o < 3600 → unsigned_abs (int_rem_euclid (pos (o + 3600)) (pos 3600)) ≡ o
rem_more o h = grind arith

rem_less : (o : ℕ) → o < 3600 → unsigned_abs (int_rem_euclid (pos o -ℤ pos 3600) (pos 3600)) ≡ o
rem_less o h = grind (arith, ints)

swing_small : (d o : ℕ) → d < 3600 → o < 3600 → unsigned_abs (swing_of d o) ≤ 1800
unfolding swing_of shorter_arc
swing_small d o h k = grind (arith, ints)

direction_by_swing : (d o : ℕ) → d < 3600 → o < 3600 → direction_by d (swing_of d o) ≡ o
unfolding swing_of shorter_arc
direction_by_swing d o h k = grind (arith, ints, rem_same, rem_more, rem_less)

turned_whole : (d o : ℕ) → d < 3600 → o < 3600 → turned 1800 d o ≡ o
unfolding turned
turned_whole d o h k = rw (held_small 1800 (swing_of d o) (swing_small d o h k)) (direction_by_swing d o h k)

ordered_course-below : (grid : Grid) (choice course : ℕ) → ordered_course grid choice course < 3600
unfolding ordered_course
ordered_course-below grid choice course = direction_below course (course_change grid choice)

ordered_speed-small : (grid : Grid) (choice speed : ℕ) → ordered_speed grid choice speed ≤ 1022
unfolding ordered_speed
ordered_speed-small grid choice speed = held_speed (pos speed +ℤ speed_change grid choice)

turned-below : (rate direction ordered : ℕ) → turned rate direction ordered < 3600
unfolding turned
turned-below rate direction ordered = direction_below direction (held (neg_ℤ (pos rate)) (pos rate) (swing_of direction ordered))

turned_at : (rate d o : ℕ) → rate ≡ 1800 → d < 3600 → o < 3600 → turned rate d o ≡ o
turned_at rate d o e h k = rw e (turned_whole d o h k)

hastened_at : (rate v o : ℕ) → rate ≡ 1022 → v ≤ 1022 → o ≤ 1022 → hastened rate v o ≡ o
hastened_at rate v o e h k = rw e (hastened_whole v o h k)

-- her direction stays one that a report can say

direction_after-below : (grid : Grid) (plan : List ℕ) (course step : ℕ) → course < 3600 → direction_after grid plan course step < 3600
unfolding direction_after
direction_after-below grid plan course zero h = h
direction_after-below grid plan course (suc step) h =
    turned-below grid.turn_rate (direction_after grid plan course step) (ordered_course grid (choice_in_force grid plan step) course)

course_taken : (grid : Grid) → grid.turn_rate ≡ 1800 → (plan : List ℕ) (course step : ℕ) → course < 3600 →
    direction_after grid plan course (suc step) ≡ ordered_course grid (choice_in_force grid plan step) course
unfolding direction_after
course_taken grid e plan course step h =
    turned_at grid.turn_rate (direction_after grid plan course step) (ordered_course grid (choice_in_force grid plan step) course) e
    (direction_after-below grid plan course step h) (ordered_course-below grid (choice_in_force grid plan step) course)

speed_taken : (grid : Grid) → grid.speed_rate ≡ 1022 → (plan : List ℕ) (speed step : ℕ) → speed ≤ 1022 →
    speed_after grid plan speed (suc step) ≡ ordered_speed grid (choice_in_force grid plan step) speed
unfolding speed_after
speed_taken grid e plan speed zero h =
    hastened_at grid.speed_rate speed (ordered_speed grid (choice_in_force grid plan zero) speed) e h (ordered_speed-small grid (choice_in_force grid plan zero) speed)
speed_taken grid e plan speed (suc step) h =
    let so_far = speed_taken grid e plan speed step h in
    let small : speed_after grid plan speed (suc step) ≤ 1022 = rw so_far (ordered_speed-small grid (choice_in_force grid plan step) speed) in
    hastened_at grid.speed_rate (speed_after grid plan speed (suc step)) (ordered_speed grid (choice_in_force grid plan (suc step)) speed) e small
    (ordered_speed-small grid (choice_in_force grid plan (suc step)) speed)

pub taken : (grid : Grid) → grid.turn_rate ≡ 1800 → grid.speed_rate ≡ 1022 → TakesOrdersAtOnce grid
taken grid e f = record {
  course = λ plan course step h. ap (direction_after grid plan course) (add-one step) ∙ course_taken grid e plan course step h;
  speed = λ plan speed step h. ap (speed_after grid plan speed) (add-one step) ∙ speed_taken grid f plan speed step h;
}
