-- The fault of an integer at a key: Missing, then Type, then Range, then Multiple.
use Rattle.std.specs.Prelude.{ℕ, Bool, ◌==◌, ◌&&◌, ◌%◌, ℤ, pos, int_le, unsigned_abs, if◌then◌else◌, Option, Some, None}
use Rattle.toml.specs.Data.{Data, as_integer}
use Rattle.scenario_keys.specs.declared.rows.Range.{Range}
use Rattle.scenario_keys.specs.declared.rows.Range.TheVariants as range
use Rattle.scenario_keys.specs.declared.numbers.Bounds.{Bounds}
use Rattle.scenario_keys.specs.declared.cause.Cause.{Cause}
use Rattle.scenario_keys.specs.declared.cause.Cause.TheVariants as cause

-- the integers of a range, at a tick of this many seconds

abbrev pub bounds_of : ℕ → Range → Bounds
bounds_of tick (range.FromTo low high) = record { low = low; high = high; step = 1; otherwise = None }
bounds_of tick (range.FromTheTickTo high) = record { low = pos tick; high = high; step = 1; otherwise = None }
bounds_of tick (range.TicksFromOneTo high) = record { low = pos tick; high = high; step = tick; otherwise = None }
bounds_of tick (range.TicksTo high) = record { low = pos 0; high = high; step = tick; otherwise = None }
bounds_of tick (range.Optional low high otherwise) = record { low = low; high = high; step = 1; otherwise = Some otherwise }

abbrev pub is_in_bounds : Bounds → ℤ → Bool
is_in_bounds bounds z = int_le bounds.low z && int_le z bounds.high

abbrev pub is_multiple : ℕ → ℤ → Bool
is_multiple step z = unsigned_abs z % step == 0

abbrev pub missing_cause : Option ℤ → Option Cause
missing_cause None = Some cause.Missing
missing_cause (Some otherwise) = None

abbrev pub integer_cause : Bounds → Option ℤ → Option Cause
integer_cause bounds None = Some cause.Type_
integer_cause bounds (Some z) =
    if is_in_bounds bounds z then (if is_multiple bounds.step z then None else Some cause.Multiple) else Some cause.Range

abbrev pub number_cause : Bounds → Option Data → Option Cause
number_cause bounds None = missing_cause bounds.otherwise
number_cause bounds (Some found) = integer_cause bounds (as_integer found)
