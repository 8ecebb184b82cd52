-- The numbers of a lattice of plans.
use Rattle.std.specs.Prelude.{ℕ, ℤ, ◌+◌, ◌*◌, ◌^◌, ◌≤◌, List, length, All, unsigned_abs}

pub record Grid : Type 0 where
  -- the changes of course that a leg may choose, in tenths of a degree, and of speed, in tenths of a knot
  pub courses : List ℤ
  pub speeds : List ℤ
  -- the number of legs of a plan, the ticks of each, and for how many more the last is held
  pub legs : ℕ
  pub leg_ticks : ℕ
  pub tail : ℕ
  -- the most that own ship turns per tick, in tenths of a degree, and changes speed, in tenths of a knot
  pub turn_rate : ℕ
  pub speed_rate : ℕ

abbrev pub grid : List ℤ → List ℤ → ℕ → ℕ → ℕ → ℕ → ℕ → Grid
grid courses speeds legs leg_ticks tail turn_rate speed_rate = record {
  courses = courses;
  speeds = speeds;
  legs = legs;
  leg_ticks = leg_ticks;
  tail = tail;
  turn_rate = turn_rate;
  speed_rate = speed_rate;
}

-- the number of choices of a leg, of plans, and of ticks of a plan
abbrev pub choices_of : Grid → ℕ
choices_of grid = length grid.courses * length grid.speeds

abbrev pub plans_of : Grid → ℕ
plans_of grid = choices_of grid ^ grid.legs

abbrev pub positions_of : Grid → ℕ
positions_of grid = grid.legs * grid.leg_ticks + grid.tail

-- each number is in its range
pub record IsGrid (grid : Grid) : Type 0 where
  pub some_course : 1 ≤ length grid.courses
  pub few_courses : length grid.courses ≤ 32
  pub course_changes : All (λ change. unsigned_abs change ≤ 1800) grid.courses
  pub some_speed : 1 ≤ length grid.speeds
  pub few_speeds : length grid.speeds ≤ 16
  pub speed_changes : All (λ change. unsigned_abs change ≤ 1022) grid.speeds
  pub some_leg : 1 ≤ grid.legs
  pub few_legs : grid.legs ≤ 8
  pub some_tick : 1 ≤ grid.leg_ticks
  pub few_ticks : grid.leg_ticks ≤ 7200
  pub short_tail : grid.tail ≤ 7200
  pub turns : 1 ≤ grid.turn_rate
  pub turn_rate : grid.turn_rate ≤ 1800
  pub hastens : 1 ≤ grid.speed_rate
  pub speed_rate : grid.speed_rate ≤ 1022
  pub few_plans : plans_of grid ≤ 2 ^ 30
  pub few_positions : positions_of grid ≤ 7200
