use Rattle.std.proofs.Common.{ℕ, ◌+◌, ◌<◌, List}
use Rattle.plan_situations.specs.FailingPlans.{EntersAt}
use Rattle.plan_situations.specs.Paths.{IsPath}
use Rattle.plan_situations.specs.Situations.{now_of}
use Rattle.plan_situations.proofs.situation.Situation.enters_along.Given as goal

abbrev pub invariant-loop-j : goal.invariant-loop-j
invariant-loop-j l = (plan : List ℕ) → IsPath l.self plan l.first l.path → (i : ℕ) → i < l.j →
    ¬ EntersAt l.self plan l.target (now_of l.self + l.first + i)
