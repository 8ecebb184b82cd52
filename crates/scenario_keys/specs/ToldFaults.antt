-- The report of a fault: its key (a row of the table of keys and an item of the key's list) and its cause.
use Rattle.std.specs.Prelude.{ℕ, nat_le, if◌then◌else◌, Option, Some, None}
use Rattle.scenario_keys.specs.declared.key.Key.{Key}
use Rattle.scenario_keys.specs.declared.cause.Cause.{Cause}
use Rattle.scenario_keys.specs.declared.fault.ScenarioFault.{ScenarioFault}
use Rattle.scenario_keys.specs.declared.fault.ScenarioFault.TheVariants as refusal

abbrev pub fault_at : ℕ → ℕ → Cause → Option (Key × Cause)
fault_at row item cause = Some (record { row = row; item = item }, cause)

-- the cause, if there is one, at an item of a key

abbrev pub fault_by_at : ℕ → ℕ → Option Cause → Option (Key × Cause)
fault_by_at row item None = None
fault_by_at row item (Some cause) = fault_at row item cause

abbrev pub fault_by : ℕ → Option Cause → Option (Key × Cause)
fault_by row cause = fault_by_at row 0 cause

-- the greatest reported item
abbrev pub item_of : ℕ → ℕ
item_of n = if nat_le n 65535 then n else 65535

abbrev pub fault_listed : ℕ → Option (ℕ × Cause) → Option (Key × Cause)
fault_listed row None = None
fault_listed row (Some (item, cause)) = fault_at row (item_of item) cause

-- P holds of the reported fault; nothing is stated if memory ran out
abbrev pub IfFault : (Key × Cause → Type 0) → ScenarioFault → Type 0
IfFault P (refusal.Fault key why) = P (key, why)
IfFault P refusal.Memory = Unit {0}
