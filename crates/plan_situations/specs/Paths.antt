-- Own ship's path in a leg.
use Rattle.std.specs.Prelude.{ℕ, ◌≡◌, ◌+◌, ◌<◌, ◌^◌, List, length, get_or, unwrap_or}
use Rattle.encounters.specs.Directions.{HasDirection}
use Rattle.fixed_geometry.specs.Sizes.{IsBelow}
use Rattle.lattice.specs.UnderWays.{IsReached}
use Rattle.lattice.specs.declared.under_way.UnderWay.{UnderWay}
use Rattle.motion.specs.Displacement.{displacement}
use Rattle.motion.specs.declared.leg.TickState.{TickState}
use Rattle.plan_situations.specs.FailingPlans.{EntersAt}
use Rattle.plan_situations.specs.Situations.{planned_state}
use Rattle.plan_situations.specs.declared.situation.Situation.{Situation}
use Rattle.plan_situations.specs.declared.situation.Target.{Target}

-- It has her states under a plan, from a tick on that is counted from now.
abbrev pub IsPath : Situation → List ℕ → ℕ → List TickState → Type 0
IsPath situation plan first path = (j : ℕ) (d : TickState) → j < length path → get_or path j d ≡ planned_state situation plan (first + j)

-- own ship at now, under way
abbrev pub start_of : Situation → UnderWay
start_of situation = record {
  point = situation.start.point;
  direction = unwrap_or situation.start.direction 0;
  speed = unwrap_or situation.start.speed 0;
}

-- She is where this many steps from now lead under a plan.
abbrev pub HasReached : Situation → List ℕ → ℕ → UnderWay → Type 0
HasReached situation plan steps own = IsReached situation.lattice plan situation.tick (start_of situation) steps own

-- She is at points and heads as a step may say, and moves so from tick to tick.
pub record IsTrack (path : List TickState) : Type 0 where
  pub placed : (j : ℕ) (d : TickState) → j < length path → IsBelow (2 ^ 33) (get_or path j d).point
  pub heads : (j : ℕ) (d : TickState) → j < length path → HasDirection (get_or path j d)
  pub moves : (j : ℕ) (d : TickState) → j + 1 < length path → IsBelow (2 ^ 25) (displacement (get_or path j d).point (get_or path (j + 1) d).point)

-- In some of this many steps from a tick on own ship enters the target's domain.
pub record EntersAlong (situation : Situation) (plan : List ℕ) (target : Target) (from steps : ℕ) : Type 0 where
  pub ahead : ℕ
  pub within : ahead < steps
  pub enters : EntersAt situation plan target (from + ahead)
