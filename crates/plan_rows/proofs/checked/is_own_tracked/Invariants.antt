use Rattle.std.proofs.Common.{ℕ, ◌+◌, ◌<◌}
use Rattle.std.specs.Prelude.{IfSome}
use Rattle.encounters.specs.Directions.{HasDirection}
use Rattle.meetings.specs.Traces.{IsPlaced, IsShortMove}
use Rattle.plan_situations.specs.Situations.{known_at}
use Rattle.plan_rows.proofs.checked.is_own_tracked.Given as goal

abbrev pub invariant-loop-k : goal.invariant-loop-k
invariant-loop-k l = record {
  placed : (i : ℕ) → i < l.k → IsPlaced (known_at l.situation i);
  heads : (i : ℕ) → i < l.k → IfSome (known_at l.situation i) HasDirection;
}

abbrev pub invariant-loop-k-2 : goal.invariant-loop-k-2
invariant-loop-k-2 l = (i : ℕ) → i < l.k → IsShortMove (known_at l.situation i) (known_at l.situation (i + 1))
