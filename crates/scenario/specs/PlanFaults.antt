-- The faults of own ship's plans: too many, or too long.
use Rattle.std.specs.Prelude.{ℕ, ◌+◌, ◌*◌, ◌^◌, ◌&&◌, nat_le, Bool, codes, length, if◌then◌else◌, Option, Some, None}
use Rattle.toml.specs.Data.{Members}
use Rattle.scenario_keys.specs.KeyValues.{list_at, natural_at}
use Rattle.scenario_keys.specs.declared.cause.Cause.{Cause}
use Rattle.scenario_keys.specs.declared.cause.Cause.TheVariants as cause
use Rattle.scenario.specs.declared.plan_sizes.PlanSizes.{PlanSizes}

unfoldable pub sizes_of : Members → PlanSizes
sizes_of document = record {
  courses = length (list_at (codes "own") (codes "courses") document);
  speeds = length (list_at (codes "own") (codes "speeds") document);
  legs = natural_at (codes "own") (codes "legs") document;
  leg_ticks = natural_at (codes "own") (codes "leg_ticks") document;
  tail = natural_at (codes "own") (codes "tail") document;
}

-- each is in its key's range; otherwise an earlier key has a fault
abbrev pub are_in_range : PlanSizes → Bool
are_in_range sizes =
    (nat_le sizes.courses 32 && nat_le sizes.speeds 16) && (nat_le sizes.legs 8 && (nat_le sizes.leg_ticks 7200 && nat_le sizes.tail 7200))

-- at most 2^30 plans
abbrev pub are_few : PlanSizes → Bool
are_few sizes = nat_le ((sizes.courses * sizes.speeds) ^ sizes.legs) 1073741824

-- at most 7200 seconds
abbrev pub are_short : ℕ → PlanSizes → Bool
are_short tick sizes = nat_le ((sizes.legs * sizes.leg_ticks + sizes.tail) * tick) 7200

abbrev pub plans_cause : ℕ → PlanSizes → Option Cause
plans_cause tick sizes = if are_in_range sizes then (if are_few sizes && are_short tick sizes then None else Some cause.Product) else None
