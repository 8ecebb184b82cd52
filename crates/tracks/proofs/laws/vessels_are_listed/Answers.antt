use Rattle.std.proofs.Common.{◌+◌, arith}
use Rattle.tracks.specs.VesselsHeld.{held_of}
use Rattle.tracks.proofs.Ascending.{Contains_from_among, among_from_Contains, ascends_lt}
use Rattle.tracks.proofs.Holding.{held_among, held_of-ascends, held_passes}
use Rattle.tracks.proofs.laws.vessels_are_listed.Goals as goal

pub returns-clause-ascending : goal.returns-clause-ascending
returns-clause-ascending c = λ numbers sent k lt. ascends_lt (held_of numbers sent) (held_of-ascends numbers sent) k (k + 1) 0 (omega arith) lt

pub returns-clause-all : goal.returns-clause-all
returns-clause-all c = λ numbers sent mmsi. (
  λ found. held_passes numbers sent mmsi (among_from_Contains mmsi (held_of numbers sent) found),
  λ held. Contains_from_among mmsi (held_of numbers sent) (held_among numbers sent mmsi held),
)
