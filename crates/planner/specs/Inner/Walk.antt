-- The answer among the plans of some consecutive numbers.
use Rattle.std.specs.Prelude.{ℕ, ◌<◌, ◌≤◌}
use Rattle.plan_situations.specs.FailingPlans.{Fails}
use Rattle.plan_situations.specs.LeastPlans.{numbered}
use Rattle.plan_situations.specs.declared.situation.Situation.{Situation}

-- Every plan fails whose number is at least `from` and below `to`.
pub record AllFailFrom (situation : Situation) (from to : ℕ) : Type 0 where
  pub each : (number : ℕ) → from ≤ number → number < to → Fails situation (numbered situation number)

-- It is the first of those plans that does not fail.
pub record IsFirst (situation : Situation) (from to number : ℕ) : Type 0 where
  pub not_before : from ≤ number
  pub before : number < to
  pub passes : ¬ Fails situation (numbered situation number)
  pub lesser : AllFailFrom situation from number
