use Rattle.std.proofs.Common.{ℕ, ◌≡◌, ◌<◌, length, get_or}
use Rattle.plan_situations.specs.declared.situation.Target.{Target}
use Rattle.refutations.specs.Inner.Replays.{situation_in, IsTraceSoFar}
use Rattle.refutations.specs.declared.trace_so_far.TraceSoFar.{TraceSoFar}
use Rattle.refutations.proofs.replay.Replay.new.Given as goal

abbrev pub invariant-loop-target : goal.invariant-loop-target
invariant-loop-target l = record {
  count : length l.traces.items ≡ l._target-index;
  traces : (k : ℕ) (T : Target) (trace : TraceSoFar) → k < length l.traces.items
      → IsTraceSoFar (situation_in l.course) (get_or l.traces.items k trace).plan T (get_or l.traces.items k trace);
}
