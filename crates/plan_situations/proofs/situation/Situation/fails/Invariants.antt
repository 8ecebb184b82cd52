use Rattle.std.proofs.Common.{ℕ, ◌<◌, get_or}
use Rattle.plan_situations.specs.FailingPlans.{FailsTowards}
use Rattle.plan_situations.specs.Situations.{end_of}
use Rattle.plan_situations.specs.declared.situation.Target.{Target}
use Rattle.plan_situations.proofs.situation.Situation.fails.Given as goal

abbrev pub invariant-loop-target : goal.invariant-loop-target
invariant-loop-target l = (i : ℕ) (d : Target) → i < l.target-index → ¬ FailsTowards l.self l.plan (end_of l.self) (get_or l.self.targets i d)
