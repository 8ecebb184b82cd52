-- When own ship is inside a target's domain, at an instant and in a step of both. The domain is the situation's shape along the
-- target's direction at the step's first tick; it is a circle if there is no shape, or no such direction.
use Rattle.std.specs.Prelude.{ℕ, ◌≡◌, ◌<◌, ◌≤◌, ◌^◌, List, ℤ, Option, Some, None}
use Rattle.closest_approach.specs.Separation.{IsNearer, nearest_of}
use Rattle.closest_approach.specs.declared.nearest.Moment.{Moment}
use Rattle.encounters.specs.declared.pair_step.PairStep.{PairStep}
use Rattle.hull_domains.specs.Crossings.{entry_moment}
use Rattle.hull_domains.specs.Domains.{IsInside}
use Rattle.motion.specs.Steps.{RelativeMove}
use Rattle.plan_situations.specs.declared.domain.Domain.{Domain}
use Rattle.plan_situations.specs.declared.situation.Situation.{Situation}
use Rattle.plan_situations.specs.declared.situation.Target.{Target}

-- what is asked of a domain
abbrev pub IsDomain : Domain → Type 0
IsDomain domain = domain.radius < 2 ^ 31

-- She is inside, by the shape and the target's direction if there are both, otherwise by the radius.
abbrev pub IsInsideBy : Option (List (ℤ × ℤ)) → Option ℕ → ℕ → RelativeMove → ℕ → ℕ → Type 0
IsInsideBy (Some shape) (Some direction) radius step a b = IsInside step direction shape a b
IsInsideBy (Some shape) None radius step a b = IsNearer step radius a b
IsInsideBy None direction radius step a b = IsNearer step radius a b

-- At the instant a / b of the step she is inside.
abbrev pub IsInsideAt : Situation → Target → PairStep → ℕ → ℕ → Type 0
IsInsideAt situation target pair a b = IsInsideBy situation.shape pair.b.direction target.domain.radius pair.step a b

-- In the step she enters it: she is inside at some instant.
pub record Enters (situation : Situation) (target : Target) (pair : PairStep) : Type 0 where
  pub a : ℕ
  pub b : ℕ
  pub within : a ≤ b
  pub some : 0 < b
  pub inside : IsInsideAt situation target pair a b

-- the moment that decides: for a shape one between the crossings of its edges, for a circle that of least distance
abbrev pub moment_by : Option (List (ℤ × ℤ)) → Option ℕ → RelativeMove → Moment
moment_by (Some shape) (Some direction) step = entry_moment step direction shape
moment_by (Some shape) None step = nearest_of step 1
moment_by None direction step = nearest_of step 1

abbrev pub moment_of : Situation → Target → PairStep → Moment
moment_of situation target pair = moment_by situation.shape pair.b.direction pair.step

-- It is an instant of the step at which she is inside, with numbers small enough to compute with.
pub record IsEntry (situation : Situation) (target : Target) (pair : PairStep) (moment : Moment) : Type 0 where
  pub is : moment ≡ moment_of situation target pair
  pub within : moment.a ≤ moment.b
  pub some : 0 < moment.b
  pub small : moment.b < 2 ^ 60
  pub inside : IsInsideAt situation target pair moment.a moment.b
