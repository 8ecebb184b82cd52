use Rattle.std.proofs.Common.{◌≡◌, length}
use Rattle.planner.proofs.level.path_of.Given as goal

abbrev pub invariant-loop-tick : goal.invariant-loop-tick
invariant-loop-tick l = length l.path.items ≡ l._tick
