use Rattle.std.proofs.Common.{ℕ, ◌<◌, get_or}
use Rattle.plan_situations.specs.Situations.{IsTarget}
use Rattle.plan_situations.specs.declared.situation.Target.{Target}
use Rattle.plan_rows.proofs.checked.are_targets.Given as goal

abbrev pub invariant-loop-target : goal.invariant-loop-target
invariant-loop-target l = (i : ℕ) (d : Target) → i < l.target-index → IsTarget l.situation (get_or l.situation.targets i d)
