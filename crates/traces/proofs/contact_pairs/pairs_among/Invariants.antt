use Rattle.std.proofs.Common.{[], drop}
use Rattle.traces.specs.Inner.Pairing.{HasPair}
use Rattle.traces.proofs.AddedPairs.{IsUnderWay}
use Rattle.traces.proofs.contact_pairs.pairs_among.Given as goal

abbrev pub invariant-loop-index : goal.invariant-loop-index
invariant-loop-index l = IsUnderWay [] (HasPair l.watch l.vessels) l.pairs.items (HasPair l.watch (drop l.index l.vessels))
