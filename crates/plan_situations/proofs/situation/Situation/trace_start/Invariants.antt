use Rattle.std.proofs.Common.{ℕ, ◌<◌}
use Rattle.meetings.specs.Traces.{IsContactAt}
use Rattle.plan_situations.specs.Situations.{own_at, target_at}
use Rattle.plan_situations.proofs.situation.Situation.trace_start.Given as goal

abbrev pub invariant-loop-k : goal.invariant-loop-k
invariant-loop-k l = (i : ℕ) → i < l.k → ¬ IsContactAt (own_at l.self l.plan) (target_at l.self l.target) l.self.detect.watch i
