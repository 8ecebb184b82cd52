use Rattle.std.proofs.Common.{◌≡◌, ℕ, ◌<◌, true, length}
use Rattle.mtl_monitor.specs.Inner.Standing.{node_at, state_at}
use Rattle.mtl_monitor.specs.Inner.Starting.{IsFresh}
use Rattle.mtl_monitor.specs.Inner.Quiet.{flag_at}
use Rattle.mtl_monitor.proofs.starting.start.Given as goal

abbrev pub invariant-loop-node : goal.invariant-loop-node
invariant-loop-node l =
    record {
      states_fit : length l.states.items ≡ l.node-index;
      values_fit : length l.values.items ≡ l.node-index;
      moving_fit : length l.moving.items ≡ l.node-index;
      move : (k : ℕ) → flag_at l.moving.items k ≡ true;
      each : (k : ℕ) → k < l.node-index → IsFresh (node_at l.nodes k).operator (state_at l.states.items k);
    }
