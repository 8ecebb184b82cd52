use Rattle.std.proofs.Common.{◌≡◌, ◌*◌, All, map}
use Rattle.std.specs.List.{range_with_len}
use Rattle.drill_log.specs.DrillLog.{state_of}
use Rattle.drill_log.specs.Inner.VesselFigures.{vessel_of, IsVessel}
use Rattle.drill_log.proofs.vessel.vessels.Given as goal

abbrev pub invariant-loop-number : goal.invariant-loop-number
invariant-loop-number l = record {
  state : l.numbers.state ≡ state_of l.seed (4 * l.number);
  figures : l.vessels.items ≡ map (vessel_of l.seed) (range_with_len 0 l.number);
  ranges : All IsVessel l.vessels.items;
}
