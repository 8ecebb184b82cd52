-- Own ship under a plan at the start of a step.
use Rattle.std.specs.Prelude.{ℕ, ◌≡◌, ◌+◌, ◌*◌, ◌/◌, ◌<◌, ◌≤◌, List, pos, ◌*ℤ◌}
use Rattle.fixed_geometry.specs.Sizes.{IsWithin}
use Rattle.fixed_geometry.specs.Velocity.{velocity_of}
use Rattle.fixed_geometry.specs.declared.point.Point.{Point}
use Rattle.fixed_geometry.specs.declared.velocities.TheConstants.{GREATEST_VELOCITY}
use Rattle.lattice.specs.Grids.{Grid}
use Rattle.lattice.specs.OwnMotion.{choice_in_force, ordered_course, ordered_speed}
use Rattle.lattice.specs.declared.passage.Orders.{Orders}
use Rattle.lattice.specs.declared.passage.Passage.{Passage}
use Rattle.lattice.specs.declared.under_way.UnderWay.{UnderWay}

-- the displacement of a velocity in a tick of this many seconds
abbrev pub way_by : ℕ → Point → Point
way_by tick velocity = record { x = pos tick *ℤ velocity.x; y = pos tick *ℤ velocity.y }

-- the orders in a step, and the step at which the next leg begins
pub record AreOrders (grid : Grid) (plan : List ℕ) (start : UnderWay) (step : ℕ) (orders : Orders) : Type 0 where
  pub course : orders.course ≡ ordered_course grid (choice_in_force grid plan step) start.direction
  pub speed : orders.speed ≡ ordered_speed grid (choice_in_force grid plan step) start.speed
  pub some : 0 < grid.leg_ticks
  pub below : orders.course < 3600
  pub small : orders.speed ≤ 1022
  pub until : orders.until ≡ (step / grid.leg_ticks + 1) * grid.leg_ticks

-- The displacement is that of the vessel's direction and speed.
pub record IsOnHerWay (tick : ℕ) (passage : Passage) : Type 0 where
  pub way : passage.way ≡ way_by tick (velocity_of passage.vessel.direction passage.vessel.speed)
  pub short : IsWithin (tick * GREATEST_VELOCITY) passage.way
  pub below : passage.vessel.direction < 3600
  pub small : passage.vessel.speed ≤ 1022

pub record IsPassage (grid : Grid) (plan : List ℕ) (tick : ℕ) (start : UnderWay) (step : ℕ) (passage : Passage) : Type 0 where
  pub on_her_way : IsOnHerWay tick passage
  pub orders : AreOrders grid plan start step passage.orders
