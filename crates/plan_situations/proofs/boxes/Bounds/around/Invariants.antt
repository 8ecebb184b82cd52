use Rattle.std.proofs.Common.{ℕ, ◌<◌, get_or}
use Rattle.motion.specs.declared.leg.TickState.{TickState}
use Rattle.plan_situations.specs.Boxes.{IsIn}
use Rattle.plan_situations.proofs.boxes.Bounds.around.Given as goal

abbrev pub invariant-loop-k : goal.invariant-loop-k
invariant-loop-k l = (j : ℕ) (d : TickState) → j < l.k → IsIn l.bounds (get_or l.path j d).point
