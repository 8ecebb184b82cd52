-- The legs between the reports of a vessel, and her state at a time.
use Rattle.std.specs.Prelude.{ℕ, ◌≡◌, ◌+◌, ◌-◌, ◌*◌, ◌≤◌, ◌<◌, ◌⊎◌, Bool, ◌&&◌, nat_le, List, length, Option, None, Some, IfSome, pos, ◌*ℤ◌, ◌≤ℤ◌}
use Rattle.std.specs.List.{AllAdjacentBelow, filter, last_or}
use Rattle.std.specs.Option.{option_map}
use Rattle.fixed_geometry.specs.Displacement.{displacement}
use Rattle.fixed_geometry.specs.Plane.{norm2_of}
use Rattle.fixed_geometry.specs.Sizes.{IsWithin}
use Rattle.fixed_geometry.specs.declared.projection.TheConstants.{REGION_SIZE}
use Rattle.fixed_geometry.specs.declared.velocities.TheConstants.{GREATEST_VELOCITY}
use Rattle.motion.specs.Between.{between}
use Rattle.motion.specs.declared.leg.Leg.{Leg}
use Rattle.motion.specs.declared.leg.TickState.{TickState}

-- A leg lasts at most an hour and is in the region. The vessel moves at no more than 102.2 knots: a tenth of a knot is
-- 4630 / 9 tenths of a millimetre per second.
pub record IsLeg (leg : Leg) : Type 0 where
  pub lasts : leg.t1 < leg.t2
  pub short : leg.t2 - leg.t1 ≤ 3600
  pub begins : IsWithin REGION_SIZE leg.p1
  pub ends : IsWithin REGION_SIZE leg.p2
  pub slow : (pos 81 *ℤ norm2_of (displacement leg.p1 leg.p2)) ≤ℤ pos (4630 * 1022 * (leg.t2 - leg.t1) * (4630 * 1022 * (leg.t2 - leg.t1)))
  pub direction : IfSome leg.direction (λ d. d < 3600)
  pub speed : IfSome leg.speed (λ v. v ≤ 1022)

-- A leg contains its two ends and the times between them.
abbrev pub holds : ℕ → Leg → Bool
holds t leg = nat_le leg.t1 t && nat_le t leg.t2

-- the state at a time within the leg
unfoldable pub state_on : ℕ → Leg → TickState
state_on t leg = record {
  point = record {
    x = between leg.p1.x leg.p2.x (t - leg.t1) (leg.t2 - leg.t1);
    y = between leg.p1.y leg.p2.y (t - leg.t1) (leg.t2 - leg.t1);
  };
  direction = leg.direction;
  speed = leg.speed;
}

-- the state at a time, on the last of the legs that contain it: if two legs meet, the later one counts
unfoldable pub state_at : ℕ → List Leg → Option TickState
state_at t legs = option_map (state_on t) (last_or None (filter (holds t) legs))

-- A vessel is at most this far from the origin in each component, and her direction and speed are in the range of a
-- report. In the region the distance is `REGION_SIZE`; for a predicted or planned vessel it is `FARTHEST`.
pub record IsTickState (size : ℕ) (state : TickState) : Type 0 where
  pub point : IsWithin size state.point
  pub direction : IfSome state.direction (λ d. d < 3600)
  pub speed : IfSome state.speed (λ v. v ≤ 1022)

-- Two legs meet in one report.
pub record Meets (earlier later : Leg) : Type 0 where
  pub time : earlier.t2 ≡ later.t1
  pub point : earlier.p2 ≡ later.p1

-- Consecutive legs meet, or are more than `gap` seconds apart.
abbrev pub AreJoined : ℕ → List Leg → Type 0
AreJoined gap legs = AllAdjacentBelow (λ earlier later. Meets earlier later ⊎ (earlier.t2 + gap < later.t1)) legs (length legs)

-- From one time to another, at most `gap` seconds later, a vessel that is seen at both moves by at most the greatest velocity in
-- each component, and by 2 more, since both places are rounded.
abbrev pub MovesLittle : ℕ → List Leg → Type 0
MovesLittle gap legs = (t u : ℕ) (before after : TickState) → t ≤ u → u ≤ t + gap → state_at t legs ≡ Some before → state_at u legs ≡ Some after
    → IsWithin ((u - t) * GREATEST_VELOCITY + 2) (displacement before.point after.point)
