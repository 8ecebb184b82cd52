use Rattle.std.proofs.Common.{◌≡◌, ◌++◌, drop, map, take}
use Rattle.tracks.specs.Inner.Keeping.{vessel_since}
use Rattle.tracks.proofs.book.forget_each.Given as goal

abbrev pub invariant-loop-vessel : goal.invariant-loop-vessel
invariant-loop-vessel l = l.vessel-items ≡ map (vessel_since l.gap l.time) (take l.vessel-index l.fn.vessels.items) ++ drop l.vessel-index l.fn.vessels.items
