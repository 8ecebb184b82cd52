use Rattle.std.proofs.Common.{[], drop}
use Rattle.traces.specs.Inner.Pairing.{HasSubjectPair}
use Rattle.traces.proofs.AddedPairs.{IsUnderWay}
use Rattle.traces.proofs.contact_pairs.pairs_with.Given as goal

abbrev pub invariant-loop-vessel : goal.invariant-loop-vessel
invariant-loop-vessel l = IsUnderWay [] (HasSubjectPair l.watch l.subjects l.vessels l.vessels) l.pairs.items (HasSubjectPair l.watch l.subjects (drop l.vessel-index l.vessels) l.vessels)
