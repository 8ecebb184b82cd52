use Rattle.std.proofs.Common.{◌≡◌, ℕ, ◌<◌, length, get_or}
use Rattle.plan_situations.specs.Boxes.{ahead_from, HoldsPath}
use Rattle.plan_situations.specs.declared.boxes.Bounds.{Bounds}
use Rattle.plan_situations.specs.declared.situation.Target.{Target}
use Rattle.planner.proofs.level.all_beside.Given as goal

abbrev pub invariant-loop-target : goal.invariant-loop-target
invariant-loop-target l = record {
  count : length l.beside.items ≡ l.target-index;
  each : (k : ℕ) (b : Bounds) → k < length l.beside.items → (t : Target) → HoldsPath (get_or l.beside.items k b) (ahead_from (get_or l.situation.targets k t) l.first l.ticks);
}
