-- What is kept on a walk over the prefixes of plans, and towards which target a plan fails first. A reader has only to know that a new walk keeps what
-- stands at now, and how a leg more takes this on: what the places hold for it is of no matter here.
use Rattle.std.specs.Prelude.{ℕ, ◌<◌, List, length, get_or}
use Rattle.plan_situations.specs.FailingPlans.{FailsTowards}
use Rattle.plan_situations.specs.declared.situation.Situation.{Situation}
use Rattle.plan_situations.specs.declared.situation.Target.{Target}
use Rattle.planner.specs.Inner.Levels.{ArePlaces, HasPlaces, IsAfter, IsBasis}
use Rattle.planner.specs.declared.basis.SearchBasis.{SearchBasis}
use Rattle.planner.specs.declared.level.Level.{Level}
use Rattle.planner.specs.declared.walk.Walk.{Walk}

-- what stays the same
abbrev pub IsGround : Situation → SearchBasis → Type 0
IsGround situation basis = IsBasis situation basis

-- There is a place for a leg, and there are places for all legs from one on.

abbrev pub HasPlace : Situation → SearchBasis → ℕ → Level → Type 0
HasPlace situation basis leg level = HasPlaces situation basis leg level

abbrev pub HavePlaces : Situation → SearchBasis → ℕ → List Level → Type 0
HavePlaces situation basis leg below = ArePlaces situation basis leg below

-- What a level keeps stands for the prefix of this many legs of this number, by whose horizon own ship enters no domain.
abbrev pub Keeps : Situation → SearchBasis → ℕ → ℕ → Level → Type 0
Keeps situation basis legs number level = IsAfter situation basis legs number level

pub record IsWalk (situation : Situation) (walk : Walk) : Type 0 where
  pub ground : IsGround situation walk.basis
  pub start : Keeps situation walk.basis 0 0 walk.start
  pub places : HavePlaces situation walk.basis 0 walk.below.items

-- Under a plan and up to a last tick, it is the first target, by its index, towards which the plan fails.
pub record IsFirstFailing (situation : Situation) (plan : List ℕ) (last : ℕ) (k : ℕ) : Type 0 where
  pub inside : k < length situation.targets
  pub fails : (d : Target) → FailsTowards situation plan last (get_or situation.targets k d)
  pub before : (i : ℕ) (d : Target) → i < k → ¬ FailsTowards situation plan last (get_or situation.targets i d)
