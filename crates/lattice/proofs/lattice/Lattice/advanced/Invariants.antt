use Rattle.std.proofs.Common.{◌≡◌, ℕ, ◌+◌, ◌*◌, ◌≤◌, unsigned_abs}
use Rattle.fixed_geometry.specs.Displacement.{displacement}
use Rattle.fixed_geometry.specs.Sizes.{IsWithin}
use Rattle.fixed_geometry.specs.declared.velocities.TheConstants.{GREATEST_VELOCITY}
use Rattle.lattice.specs.Inner.Passages.{IsPassage}
use Rattle.lattice.specs.OwnMotion.{point_after}
use Rattle.lattice.specs.UnderWays.{HasAdvanced}
use Rattle.lattice.proofs.lattice.Lattice.advanced.Given as goal

abbrev pub invariant-loop-step : goal.invariant-loop-step
invariant-loop-step l = record {
  advanced : HasAdvanced l.self l.plan l.tick l.start l.step l.passage.vessel;
  passage : IsPassage l.self l.plan l.tick l.start l.step l.passage;
  moved : (before : ℕ) → l.step ≡ before + 1 → IsWithin (l.tick * GREATEST_VELOCITY) (displacement (point_after l.self l.plan l.tick l.start.point l.start.direction l.start.speed before) l.passage.vessel.point);
  near_x : unsigned_abs l.passage.vessel.point.x ≤ unsigned_abs l.start.point.x + l.step * (l.tick * GREATEST_VELOCITY);
  near_y : unsigned_abs l.passage.vessel.point.y ≤ unsigned_abs l.start.point.y + l.step * (l.tick * GREATEST_VELOCITY);
}
