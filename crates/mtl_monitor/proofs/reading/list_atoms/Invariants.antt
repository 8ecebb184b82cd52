use Rattle.std.proofs.Common.{ℕ, ◌<◌}
use Rattle.mtl_monitor.specs.Inner.Standing.{node_at}
use Rattle.mtl_monitor.specs.Inner.Reading.{IsListed, AreReadable}
use Rattle.mtl_monitor.proofs.reading.list_atoms.Given as goal

abbrev pub invariant-loop-index : goal.invariant-loop-index
invariant-loop-index l =
    record {
      listed : (k : ℕ) → k < l.index → IsListed l.glance l.atoms.items (node_at l.nodes k).operator k;
      readable : AreReadable l.glance l.nodes l.index l.atoms.items;
    }
