use Rattle.std.proofs.Common.{ℕ, ◌<◌, ◌≤◌, ◌^◌, get_or}
use Rattle.motion.specs.declared.leg.TickState.{TickState}
use Rattle.traces.specs.Inner.Distances.{component_distance_of}
use Rattle.traces.proofs.drift.greatest_move.Given as goal

abbrev pub invariant-loop-index : goal.invariant-loop-index
invariant-loop-index l = record {
  most : l.greatest < 2 ^ 34;
  each : (k : ℕ) (d : ℕ × TickState) → k < l.index → component_distance_of (get_or l.before k d).1.point (get_or l.after k d).1.point ≤ l.greatest;
}
