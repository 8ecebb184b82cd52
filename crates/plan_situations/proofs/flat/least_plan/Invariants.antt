use Rattle.std.proofs.Common.{ℕ, ◌<◌}
use Rattle.plan_situations.specs.FailingPlans.{Fails}
use Rattle.plan_situations.specs.LeastPlans.{numbered}
use Rattle.plan_situations.proofs.flat.least_plan.Given as goal

abbrev pub invariant-loop-number : goal.invariant-loop-number
invariant-loop-number l = (n : ℕ) → n < l.number → Fails l.situation (numbered l.situation n)
