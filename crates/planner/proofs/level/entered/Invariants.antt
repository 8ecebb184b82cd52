use Rattle.std.proofs.Common.{ℕ, ◌+◌, ◌-◌, ◌<◌, length, get_or}
use Rattle.plan_situations.specs.Paths.{EntersAlong}
use Rattle.plan_situations.specs.Situations.{now_of}
use Rattle.plan_situations.specs.declared.situation.Target.{Target}
use Rattle.planner.proofs.level.entered.Given as goal

abbrev pub invariant-loop-index : goal.invariant-loop-index
invariant-loop-index l = (i : ℕ) (d : Target) → i < l.index
    → ¬ EntersAlong l.situation l.leg.plan (get_or l.situation.targets i d) (now_of l.situation + l.leg.begins) (length l.path - 1)
