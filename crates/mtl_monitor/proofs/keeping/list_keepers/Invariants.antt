use Rattle.std.proofs.Common.{◌≡◌}
use Rattle.mtl_monitor.specs.Inner.Keeping.{keepers_among}
use Rattle.mtl_monitor.proofs.keeping.list_keepers.Given as goal

abbrev pub invariant-loop-index : goal.invariant-loop-index
invariant-loop-index l = l.keepers.items ≡ keepers_among l.nodes l.index
