-- The faults of the tables of `predict`: of each one its ship, and then its changes.
use Rattle.std.specs.Prelude.{◌≡◌, ℕ, ◌==◌, ◌%◌, nat_le, Bool, true, false, ◌&&◌, if◌then◌else◌, codes, ℤ, pos, int_le, int_lt, unsigned_abs, List, [], ◌∷◌, length, map, Option, Some, None}
use Rattle.std.specs.List.{list_all, list_any}
use Rattle.toml.specs.Data.{Data, Items, as_array}
use Rattle.scenario_keys.specs.FirstFaults.{with_before}
use Rattle.scenario_keys.specs.FirstOf.{first_of}
use Rattle.scenario_keys.specs.IntegerFaults.{number_cause}
use Rattle.scenario_keys.specs.KeyValues.{integer_found, integers_in, member_at, natural_of}
use Rattle.scenario_keys.specs.ListFaults.{elements, is_integer_list}
use Rattle.scenario_keys.specs.ToldFaults.{fault_by_at, item_of}
use Rattle.scenario_keys.specs.declared.numbers.Bounds.{Bounds}
use Rattle.scenario_keys.specs.declared.key.Key.{Key}
use Rattle.scenario_keys.specs.declared.cause.Cause.{Cause}
use Rattle.scenario_keys.specs.declared.cause.Cause.TheVariants as cause
use Rattle.predictions.specs.declared.changes.ChangeNumbers.{ChangeNumbers}

-- the MMSI of a table, 0 if it has none
abbrev pub predicted_mmsi : Data → ℕ
predicted_mmsi found = natural_of (integer_found (member_at (codes "mmsi") found))

-- the MMSIs of ships (ITU-R M.585)
abbrev pub ships : Bounds
ships = record { low = pos 200000000; high = pos 799999999; step = 1; otherwise = None }

-- whether own ship or an earlier table has the MMSI
abbrev pub is_ship_taken : ℕ → List Data → ℕ → Bool
is_ship_taken own before mmsi = list_any (λ taken. taken == mmsi) (own ∷ map predicted_mmsi before)

abbrev pub new_cause : Bool → Option Cause → Option Cause
new_cause taken (Some why) = Some why
new_cause taken None = if taken then Some cause.Range else None

abbrev pub ship_cause : ℕ → List Data → Option Data → Option Cause
ship_cause own before found = new_cause (is_ship_taken own before (natural_of (integer_found found))) (number_cause ships found)

-- the three numbers of a change, if there are three

abbrev pub change_numbers : List ℤ → Option ChangeNumbers
change_numbers (after ∷ course ∷ speed ∷ []) = Some (record { after = after; course = course; speed = speed })
change_numbers _ = None

-- after 0 to 7200 seconds, a course of 0 to 3599 tenths of a degree, a speed of 0 to 1022 tenths of a knot

abbrev pub is_from_0_to : ℕ → ℤ → Bool
is_from_0_to most z = int_le (pos 0) z && int_le z (pos most)

abbrev pub is_change_of : Option ChangeNumbers → Bool
is_change_of None = false
is_change_of (Some numbers) = is_from_0_to 7200 numbers.after && (is_from_0_to 3599 numbers.course && is_from_0_to 1022 numbers.speed)

abbrev pub after_of : Option ChangeNumbers → ℤ
after_of None = pos 0
after_of (Some numbers) = numbers.after

-- each number is greater than the previous one

abbrev pub ascend_from : ℤ → List ℤ → Bool
ascend_from least [] = true
ascend_from least (first ∷ rest) = int_lt least first && ascend_from first rest

abbrev pub ascend : List ℤ → Bool
ascend [] = true
ascend (first ∷ rest) = ascend_from first rest

-- The cause of a list of changes: an element that is not a list of integers, then a wrong length of the list or of an
-- element, a number out of range or an `after` that is not greater than the previous one, then an `after` that is not a
-- multiple of the tick.

abbrev pub change_numbers_at : Data → Option ChangeNumbers
change_numbers_at found = change_numbers (integers_in found)

abbrev pub are_changes : List Data → Bool
are_changes list =
    (nat_le 1 (length list) && nat_le (length list) 16)
    && (list_all (λ found. is_change_of (change_numbers_at found)) list && ascend (map (λ found. after_of (change_numbers_at found)) list))

abbrev pub are_on_ticks : ℕ → List Data → Bool
are_on_ticks tick list = list_all (λ found. unsigned_abs (after_of (change_numbers_at found)) % tick == 0) list

unfoldable pub list_cause : ℕ → List Data → Option Cause
list_cause tick list =
    if list_all is_integer_list list
    then (if are_changes list then (if are_on_ticks tick list then None else Some cause.Multiple) else Some cause.Range)
    else Some cause.Type_

abbrev pub array_cause : ℕ → Option Items → Option Cause
array_cause tick None = Some cause.Type_
array_cause tick (Some items) = list_cause tick (elements items)

abbrev pub changes_cause : ℕ → Option Data → Option Cause
changes_cause tick None = Some cause.Missing
changes_cause tick (Some found) = array_cause tick (as_array found)

-- the fault of a table, given the earlier ones: that of its ship, otherwise that of its changes
unfoldable pub table_fault : ℕ → ℕ → List Data × Data → Option (Key × Cause)
table_fault tick own (before, here) =
    first_of (
    fault_by_at 46 (item_of (length before)) (ship_cause own before (member_at (codes "mmsi") here)) ∷
    fault_by_at 47 (item_of (length before)) (changes_cause tick (member_at (codes "changes") here)) ∷ [])

-- the first fault of all tables
unfoldable pub predict_fault : ℕ → ℕ → List Data → Option (Key × Cause)
predict_fault tick own tables = first_of (map (table_fault tick own) (with_before [] tables))

-- At some tick, if own ship has some MMSI, no table has a fault.
abbrev pub HaveNoFault : List Data → Type 0
HaveNoFault tables = (tick : ℕ) × (own : ℕ) × (predict_fault tick own tables ≡ None)
