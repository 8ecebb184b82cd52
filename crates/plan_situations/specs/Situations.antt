-- The states of own ship and of a target at each tick: before now as they were seen, from now on as planned and as predicted.
use Rattle.std.specs.Prelude.{ℕ, ◌≡◌, ◌+◌, ◌-◌, ◌*◌, ◌<◌, ◌≤◌, List, length, All, AllPairs, Option, Some, None, IfSome, IsSome, slice_get, unwrap_or, nat_lt, if◌then◌else◌}
use Rattle.encounters.specs.Directions.{HasDirection}
use Rattle.encounters.specs.Risk.{IsDetect}
use Rattle.lattice.specs.Grids.{choices_of, positions_of}
use Rattle.lattice.specs.OwnMotion.{own_state}
use Rattle.meetings.specs.Terms.{Terms}
use Rattle.meetings.specs.Traces.{IsPlaced, IsShortMove}
use Rattle.motion.specs.TickStates.{IsTickState}
use Rattle.motion.specs.declared.leg.TickState.{TickState}
use Rattle.plan_situations.specs.Domains.{IsDomain}
use Rattle.plan_situations.specs.declared.situation.Situation.{Situation}
use Rattle.plan_situations.specs.declared.situation.Target.{Target}

-- the numbers that define the meetings with the targets
abbrev pub terms_of : Situation → Terms
terms_of situation = record { detect = situation.detect; act = situation.act; tick = situation.tick }

-- the tick of now, and the last planned tick
abbrev pub now_of : Situation → ℕ
now_of situation = length situation.own_past - 1

abbrev pub end_of : Situation → ℕ
end_of situation = now_of situation + positions_of situation.lattice

-- how a vessel was seen at a tick
abbrev pub sighting : List (Option TickState) → ℕ → Option TickState
sighting past k = unwrap_or (slice_get past k) None

-- own ship under a plan, this many ticks after now
abbrev pub planned_state : Situation → List ℕ → ℕ → TickState
planned_state situation plan k =
    own_state situation.lattice plan situation.tick situation.start.point (unwrap_or situation.start.direction 0) (unwrap_or situation.start.speed 0) k

-- her state at a tick under a plan
abbrev pub own_at : Situation → List ℕ → ℕ → Option TickState
own_at situation plan k =
    if nat_lt k (now_of situation) then sighting situation.own_past k else Some (planned_state situation plan (k - now_of situation))

-- a target's state at a tick
abbrev pub target_at : Situation → Target → ℕ → Option TickState
target_at situation target k =
    if nat_lt k (now_of situation) then sighting target.past k else slice_get target.ahead (k - now_of situation)

-- own ship as she is known up to now
abbrev pub known_at : Situation → ℕ → Option TickState
known_at situation k = if nat_lt k (now_of situation) then sighting situation.own_past k else Some situation.start

-- From the first tick to a last one, if a vessel is seen, she is at a point and heads as a step may say, and moves so from tick to tick.
pub record IsTracked (last : ℕ) (state_at : ℕ → Option TickState) : Type 0 where
  pub placed : (k : ℕ) → k ≤ last → IsPlaced (state_at k)
  pub heads : (k : ℕ) → k ≤ last → IfSome (state_at k) HasDirection
  pub moves : (k : ℕ) → k < last → IsShortMove (state_at k) (state_at (k + 1))

-- A target has a state at each tick from now to the last planned one.
pub record IsTarget (situation : Situation) (target : Target) : Type 0 where
  pub until_now : length target.past ≡ length situation.own_past
  pub from_now : length target.ahead ≡ positions_of situation.lattice + 1
  pub tracked : IsTracked (end_of situation) (target_at situation target)
  pub domain : IsDomain target.domain

-- what is asked of a situation
pub record IsSituation (situation : Situation) : Type 0 where
  pub some_past : 2 ≤ length situation.own_past
  pub short_past : length situation.own_past ≤ 20001
  pub course : IsSome situation.start.direction
  pub speed : IsSome situation.start.speed
  pub short_tick : situation.tick ≤ 60
  pub some_leg : 1 ≤ situation.lattice.legs
  pub few_legs : situation.lattice.legs ≤ 8
  pub some_choice : 1 ≤ choices_of situation.lattice
  pub few_positions : positions_of situation.lattice ≤ 7200
  pub short : positions_of situation.lattice * situation.tick ≤ 7200
  pub near : IsTickState (7900640400 - positions_of situation.lattice * situation.tick * 525763) situation.start
  pub tracked : IsTracked (now_of situation) (known_at situation)
  pub is_detect : IsDetect situation.detect
  pub few : length situation.targets ≤ 64
  pub ascending : AllPairs (λ (a b : Target). a.mmsi < b.mmsi) situation.targets
  pub are_targets : All (IsTarget situation) situation.targets
