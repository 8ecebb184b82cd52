-- Own ship's motion under a plan, tick by tick from now.
use Rattle.std.specs.Prelude.{◌≡◌, ℕ, zero, suc, ◌+◌, ◌-◌, ◌/◌, ◌%◌, ◌<◌, ◌≤◌, min, List, length, slice_index, slice_index_or, ℤ, pos, neg_ℤ, ◌+ℤ◌, ◌-ℤ◌, ◌*ℤ◌, unsigned_abs, Some}
use Rattle.std.specs.Int.{int_max, int_min, int_rem_euclid}
use Rattle.fixed_geometry.specs.Bearing.{swing_of}
use Rattle.fixed_geometry.specs.Velocity.{velocity_of}
use Rattle.fixed_geometry.specs.declared.point.Point.{Point}
use Rattle.motion.specs.declared.leg.TickState.{TickState}
use Rattle.lattice.specs.Grids.{Grid, positions_of}

-- a number limited to the range of two others
abbrev pub held : ℤ → ℤ → ℤ → ℤ
held low high z = int_max low (int_min z high)

-- a direction, in tenths of a degree, after a change
abbrev pub direction_by : ℕ → ℤ → ℕ
direction_by direction change = unsigned_abs (int_rem_euclid (pos direction +ℤ change) (pos 3600))

-- A choice pairs each change of course with each change of speed.

abbrev pub course_change : Grid → ℕ → ℤ
course_change grid choice = slice_index_or grid.courses (choice / length grid.speeds) (pos 0)

abbrev pub speed_change : Grid → ℕ → ℤ
speed_change grid choice = slice_index_or grid.speeds (choice % length grid.speeds) (pos 0)

-- the course and the speed that a choice orders, from own ship's at now; the speed is limited to the range of a report

unfoldable pub ordered_course : Grid → ℕ → ℕ → ℕ
ordered_course grid choice course = direction_by course (course_change grid choice)

unfoldable pub ordered_speed : Grid → ℕ → ℕ → ℕ
ordered_speed grid choice speed = unsigned_abs (held (pos 0) (pos 1022) (pos speed +ℤ speed_change grid choice))

-- the leg in force in a planned step: each lasts its ticks, and the last is held for the tail
abbrev pub leg_in_force : Grid → ℕ → ℕ
leg_in_force grid step = min (step / grid.leg_ticks) (grid.legs - 1)

abbrev pub choice_in_force : Grid → List ℕ → ℕ → ℕ
choice_in_force grid plan step = slice_index plan (leg_in_force grid step)

-- In a step own ship turns the short way towards the ordered course, and changes her speed towards the ordered one, each by
-- no more than its rate.

unfoldable pub turned : ℕ → ℕ → ℕ → ℕ
turned rate direction ordered = direction_by direction (held (neg_ℤ (pos rate)) (pos rate) (swing_of direction ordered))

unfoldable pub hastened : ℕ → ℕ → ℕ → ℕ
hastened rate speed ordered = unsigned_abs (pos speed +ℤ held (neg_ℤ (pos rate)) (pos rate) (pos ordered -ℤ pos speed))

-- her direction and her speed once this many steps have begun, from her course and her speed at now

unfoldable pub direction_after : Grid → List ℕ → ℕ → ℕ → ℕ
direction_after grid plan course zero = course
direction_after grid plan course (suc step) =
    turned grid.turn_rate (direction_after grid plan course step) (ordered_course grid (choice_in_force grid plan step) course)

unfoldable pub speed_after : Grid → List ℕ → ℕ → ℕ → ℕ
speed_after grid plan speed zero = speed
speed_after grid plan speed (suc step) =
    hastened grid.speed_rate (speed_after grid plan speed step) (ordered_speed grid (choice_in_force grid plan step) speed)

-- her displacement in a tick of this many seconds
unfoldable pub point_by : ℕ → Point → Point → Point
point_by tick velocity point = record {
  x = point.x +ℤ pos tick *ℤ velocity.x;
  y = point.y +ℤ pos tick *ℤ velocity.y;
}

-- her point after this number of steps; in each of them she moves straight
unfoldable pub point_after : Grid → List ℕ → ℕ → Point → ℕ → ℕ → ℕ → Point
point_after grid plan tick point course speed zero = point
point_after grid plan tick point course speed (suc step) =
    point_by tick (velocity_of (direction_after grid plan course (suc step)) (speed_after grid plan speed (suc step)))
    (point_after grid plan tick point course speed step)

-- the number of steps that have begun at a tick; at the last planned tick none begins
abbrev pub begun_at : Grid → ℕ → ℕ
begun_at grid k = min (k + 1) (positions_of grid)

-- Her state this many ticks after now, from her point, course and speed at now: her heading and speed are those of the
-- step that begins then, and at the last planned tick those of the last planned step.
unfoldable pub own_state : Grid → List ℕ → ℕ → Point → ℕ → ℕ → ℕ → TickState
own_state grid plan tick point course speed k = record {
  point = point_after grid plan tick point course speed k;
  direction = Some (direction_after grid plan course (begun_at grid k));
  speed = Some (speed_after grid plan speed (begun_at grid k));
}

-- In each planned step own ship has the ordered course and speed.
pub record TakesOrdersAtOnce (grid : Grid) : Type 0 where
  pub course : (plan : List ℕ) (course step : ℕ) → course < 3600 →
      direction_after grid plan course (step + 1) ≡ ordered_course grid (choice_in_force grid plan step) course
  pub speed : (plan : List ℕ) (speed step : ℕ) → speed ≤ 1022 →
      speed_after grid plan speed (step + 1) ≡ ordered_speed grid (choice_in_force grid plan step) speed
