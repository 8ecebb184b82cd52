use Rattle.std.proofs.Common.{drop}
use Rattle.traces.specs.Inner.Pairing.{HasPairWith}
use Rattle.traces.proofs.AddedPairs.{IsUnderWay}
use Rattle.traces.proofs.contact_pairs.add_pairs.Given as goal

abbrev pub invariant-loop-other : goal.invariant-loop-other
invariant-loop-other l = IsUnderWay l.fn.pairs.items (HasPairWith l.watch l.vessel l.others) l.pairs.items (HasPairWith l.watch l.vessel (drop l.other-index l.others))
