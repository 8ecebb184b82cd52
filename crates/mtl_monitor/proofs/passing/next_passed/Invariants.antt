use Rattle.std.proofs.Common.{ℕ, ◌<◌, ◌≤◌}
use Rattle.mtl_monitor.specs.Inner.Quiet.{CanStay}
use Rattle.mtl_monitor.proofs.passing.next_passed.Given as goal

abbrev pub invariant-loop-k : goal.invariant-loop-k
invariant-loop-k l = (j : ℕ) → j < l.k → l.start ≤ j → CanStay l.nodes l.moving l.i l.end l.marks j
