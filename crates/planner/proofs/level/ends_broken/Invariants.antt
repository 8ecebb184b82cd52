use Rattle.std.proofs.Common.{ℕ, ◌<◌, ◌≤◌, List, get_or}
use Rattle.mtl_monitor.specs.Following.{Fits, HasRoom}
use Rattle.plan_situations.specs.FailingPlans.{BreaksARule}
use Rattle.planner.specs.Inner.Levels.{StandsAt}
use Rattle.plan_situations.specs.Situations.{now_of}
use Rattle.plan_situations.specs.declared.situation.Target.{Target}
use Rattle.planner.proofs.level.ends_broken.Given as goal

abbrev pub invariant-loop-k : goal.invariant-loop-k
invariant-loop-k l = record {
  fits : Fits l.basis.program l.ending;
  room : HasRoom l.basis.program l.ending;
  passes : (plan : List ℕ) (at : ℕ) → now_of l.situation ≤ at → StandsAt l.situation l.basis plan at l.watched
      → (j : ℕ) (t : Target) → j < l.k → ¬ BreaksARule l.situation plan at (get_or l.situation.targets j t);
}
