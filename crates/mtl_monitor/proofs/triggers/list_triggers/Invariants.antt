use Rattle.std.proofs.Common.{◌≡◌, ℕ, ◌<◌, length}
use Rattle.mtl_monitor.specs.Inner.Standing.{node_at}
use Rattle.mtl_monitor.specs.Inner.Triggers.{IsTrigger, trigger_at}
use Rattle.mtl_monitor.proofs.triggers.list_triggers.Given as goal

abbrev pub invariant-loop-node : goal.invariant-loop-node
invariant-loop-node l =
    record {
      count : length l.triggers.items ≡ l.node-index;
      each : (k : ℕ) → k < l.node-index → IsTrigger (node_at l.nodes k) (trigger_at l.triggers.items k);
    }
