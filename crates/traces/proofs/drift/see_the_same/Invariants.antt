use Rattle.std.proofs.Common.{◌≡◌, ℕ, ◌<◌, get_or}
use Rattle.motion.specs.declared.leg.TickState.{TickState}
use Rattle.traces.proofs.drift.see_the_same.Given as goal

abbrev pub invariant-loop-index : goal.invariant-loop-index
invariant-loop-index l = (k : ℕ) (d : ℕ × TickState) → k < l.index → (get_or l.before k d).0 ≡ (get_or l.after k d).0
