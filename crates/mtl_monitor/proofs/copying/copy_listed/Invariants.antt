use Rattle.mtl_monitor.specs.Inner.Copying.{HaveCopied}
use Rattle.mtl_monitor.proofs.copying.copy_listed.Given as goal

abbrev pub invariant-loop-k : goal.invariant-loop-k
invariant-loop-k l = HaveCopied l.keepers l.states l.others l.k-index
