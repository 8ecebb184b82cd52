-- Risk of collision, opening, and past and clear, at a step that is seen. The terms come from Rules 7 and 13 of the
-- COLREGs 1972, and the numbers from a scenario.
use Rattle.std.specs.Prelude.{◌*◌, ◌≤◌, pos, ◌≤ℤ◌}
use Rattle.fixed_geometry.specs.Plane.{dot_of, norm2_of}
use Rattle.motion.specs.Steps.{RelativeMove}
use Rattle.closest_approach.specs.Separation.{EntersWithin}
use Rattle.encounters.specs.declared.detect.Detect.{Detect}

-- the numbers that a scenario may have
pub record IsDetect (detect : Detect) : Type 0 where
  pub watch : detect.watch ≤ 1000000000
  pub risk : detect.risk ≤ 1000000000
  pub clear : detect.clear ≤ 1000000000
  pub horizon : detect.horizon ≤ 7200
  pub doubt : detect.angles.doubt ≤ 1124

-- The vessels are watched, and they come nearer than the risk's distance within the horizon if both keep course and
-- speed.
pub record HasRisk (detect : Detect) (step : RelativeMove) : Type 0 where
  pub watched : norm2_of step.p ≤ℤ pos (detect.watch * detect.watch)
  pub enters : EntersWithin step detect.risk detect.horizon

-- They draw apart, or keep their distance.
abbrev pub IsOpening : RelativeMove → Type 0
IsOpening step = pos 0 ≤ℤ dot_of step.p step.w

-- There is no risk, they are opening, and they are at least the clear distance apart.
pub record IsPastClear (detect : Detect) (step : RelativeMove) : Type 0 where
  pub riskless : ¬ HasRisk detect step
  pub opening : IsOpening step
  pub clear : pos (detect.clear * detect.clear) ≤ℤ norm2_of step.p
