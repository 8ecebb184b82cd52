-- One leg of a plan, as it is followed.
use Rattle.std.specs.Prelude.{ℕ, ◌≡◌, ◌+◌, ◌-◌, ◌*◌, ◌/◌, ◌^◌, ◌<◌, ◌≤◌, ◌↔◌, IsTrue, List, length, take, nat_lt, if◌then◌else◌}
use Rattle.lattice.specs.Grids.{choices_of, positions_of}
use Rattle.lattice.specs.PlanNumbers.{plan_of, IsPlan}
use Rattle.motion.specs.declared.leg.TickState.{TickState}
use Rattle.plan_situations.specs.Paths.{HasReached, IsPath, IsTrack}
use Rattle.plan_situations.specs.Prefixes.{steps_told}
use Rattle.planner.specs.declared.legs.PlannedLeg.{PlannedLeg}
use Rattle.plan_situations.specs.declared.situation.Situation.{Situation}

-- how many ticks a leg lasts, the last one with the tail
abbrev pub lasts : Situation → ℕ → ℕ
lasts situation leg =
    if nat_lt (leg + 1) situation.lattice.legs then situation.lattice.leg_ticks else positions_of situation.lattice - leg * situation.lattice.leg_ticks

-- the legs before it, and those up to it
abbrev pub legs_before : Situation → PlannedLeg → List ℕ
legs_before situation leg = plan_of (choices_of situation.lattice) leg.index (leg.number / choices_of situation.lattice)

abbrev pub legs_through : Situation → PlannedLeg → List ℕ
legs_through situation leg = plan_of (choices_of situation.lattice) (leg.index + 1) leg.number

-- Its plan begins with the legs of its number, and own ship is where those before it lead.
pub record IsPlannedLeg (situation : Situation) (leg : PlannedLeg) : Type 0 where
  pub inside : leg.index < situation.lattice.legs
  pub number : leg.number < choices_of situation.lattice ^ (leg.index + 1)
  pub is_plan : IsPlan (choices_of situation.lattice) situation.lattice.legs leg.plan
  pub shares : take (leg.index + 1) leg.plan ≡ legs_through situation leg
  pub from : leg.begins ≡ steps_told situation.lattice leg.index
  pub reached : HasReached situation leg.plan leg.begins leg.own
  pub last : IsTrue leg.is_last ↔ (leg.index + 1 ≡ situation.lattice.legs)

-- The path has her states under its plan, from the tick at which it begins to the one at which it ends.
pub record IsPathIn (situation : Situation) (leg : PlannedLeg) (path : List TickState) : Type 0 where
  pub some : 1 ≤ length path
  pub planned : leg.begins + length path ≤ positions_of situation.lattice + 1
  pub until : leg.begins + length path ≡ steps_told situation.lattice (leg.index + 1) + 1
  pub states : IsPath situation leg.plan leg.begins path
  pub track : IsTrack path
