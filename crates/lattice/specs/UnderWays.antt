-- A vessel under way, and her advance.
use Rattle.std.specs.Prelude.{ℕ, ◌≡◌, ◌+◌, ◌*◌, ◌<◌, ◌≤◌, List, unsigned_abs}
use Rattle.fixed_geometry.specs.Sizes.{IsWithin}
use Rattle.fixed_geometry.specs.declared.velocities.TheConstants.{GREATEST_VELOCITY}
use Rattle.lattice.specs.Grids.{Grid}
use Rattle.lattice.specs.OwnMotion.{direction_after, point_after, speed_after}
use Rattle.lattice.specs.declared.under_way.UnderWay.{UnderWay}

pub record IsUnderWay (size : ℕ) (vessel : UnderWay) : Type 0 where
  pub point : IsWithin size vessel.point
  pub direction : vessel.direction < 3600
  pub speed : vessel.speed ≤ 1022

pub record HasAdvanced (grid : Grid) (plan : List ℕ) (tick : ℕ) (start : UnderWay) (steps : ℕ) (reached : UnderWay) : Type 0 where
  pub point : reached.point ≡ point_after grid plan tick start.point start.direction start.speed steps
  pub direction : reached.direction ≡ direction_after grid plan start.direction steps
  pub speed : reached.speed ≡ speed_after grid plan start.speed steps

-- She is where this many steps lead, within the distance that they allow.
pub record IsReached (grid : Grid) (plan : List ℕ) (tick : ℕ) (start : UnderWay) (steps : ℕ) (reached : UnderWay) : Type 0 where
  pub advanced : HasAdvanced grid plan tick start steps reached
  pub direction : reached.direction < 3600
  pub speed : reached.speed ≤ 1022
  pub near_x : unsigned_abs reached.point.x ≤ unsigned_abs start.point.x + steps * (tick * GREATEST_VELOCITY)
  pub near_y : unsigned_abs reached.point.y ≤ unsigned_abs start.point.y + steps * (tick * GREATEST_VELOCITY)
