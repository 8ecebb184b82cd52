-- The answer: over the flat list of all plans by their numbers, the least that does not fail.
use Rattle.std.specs.Prelude.{ℕ, ◌<◌, List}
use Rattle.lattice.specs.Grids.{choices_of, plans_of}
use Rattle.lattice.specs.PlanNumbers.{number_of, plan_of, IsPlan}
use Rattle.plan_situations.specs.FailingPlans.{Fails}
use Rattle.plan_situations.specs.declared.situation.Situation.{Situation}

-- the plan that has a number
abbrev pub numbered : Situation → ℕ → List ℕ
numbered situation number = plan_of (choices_of situation.lattice) situation.lattice.legs number

-- Every plan fails whose number is below this.
abbrev pub AllFailBelow : Situation → ℕ → Type 0
AllFailBelow situation end = (number : ℕ) → number < end → Fails situation (numbered situation number)

-- Every plan fails.
abbrev pub AllFail : Situation → Type 0
AllFail situation = AllFailBelow situation (plans_of situation.lattice)

-- The plan does not fail, and each with a lesser number does.
pub record IsLeastPlan (situation : Situation) (plan : List ℕ) : Type 0 where
  pub whole : IsPlan (choices_of situation.lattice) situation.lattice.legs plan
  pub passes : ¬ Fails situation plan
  pub least : AllFailBelow situation (number_of (choices_of situation.lattice) plan)
