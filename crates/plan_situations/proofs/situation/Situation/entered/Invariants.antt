use Rattle.std.proofs.Common.{ℕ, ◌<◌, ◌≤◌}
use Rattle.plan_situations.specs.FailingPlans.{EntersAt}
use Rattle.plan_situations.specs.Situations.{now_of}
use Rattle.plan_situations.proofs.situation.Situation.entered.Given as goal

abbrev pub invariant-loop-step : goal.invariant-loop-step
invariant-loop-step l = (i : ℕ) → now_of l.self ≤ i → i < l.step → ¬ EntersAt l.self l.plan l.target i
