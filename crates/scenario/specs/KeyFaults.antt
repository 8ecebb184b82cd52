-- The fault of each key of a document, except those of formulas.
use Rattle.std.specs.Prelude.{ℕ, Bool, true, false, not, ◌==◌, ◌&&◌, nat_le, ℤ, pos, negsuc, List, codes, if◌then◌else◌, Option, Some, None, Result, Ok, Err}
use Rattle.toml.specs.Data.{Members, get_member}
use Rattle.scenario_keys.specs.IntegerFaults.{bounds_of, number_cause}
use Rattle.scenario_keys.specs.KeyValues.{integer_at, list_at, natural_at, table_at}
use Rattle.scenario_keys.specs.ListFaults.{list_fault, tables_fault}
use Rattle.scenario_keys.specs.ScenarioKeys.{Row}
use Rattle.scenario_keys.specs.ToldFaults.{fault_at, fault_by, fault_listed}
use Rattle.scenario_keys.specs.declared.rows.Kind.{Kind}
use Rattle.scenario_keys.specs.declared.rows.Kind.TheVariants as kind
use Rattle.scenario_keys.specs.declared.rows.When.{When}
use Rattle.scenario_keys.specs.declared.rows.When.TheVariants as when
use Rattle.scenario_keys.specs.declared.key.Key.{Key}
use Rattle.scenario_keys.specs.declared.cause.Cause.{Cause}
use Rattle.predictions.specs.PredictFaults.{predict_fault}
use Rattle.scenario.specs.PlanFaults.{plans_cause, sizes_of}
use Rattle.scenario.specs.Shapes.{shape_fault}
use Rattle.scenario.specs.declared.basis.Basis.{Basis}

-- the seconds of a tick; 1 if there are none, because then the tick's key or an earlier one has a fault

abbrev pub tick_or_one : Option ℤ → ℕ
tick_or_one None = 1
tick_or_one (Some (pos n)) = if nat_le 1 n && nat_le n 60 then n else 1
tick_or_one (Some (negsuc n)) = 1

unfoldable pub tick_of : Members → ℕ
tick_of document = tick_or_one (integer_at (codes "window") (codes "tick") document)

-- whether the keys are those of version 2; without a version, no later key's fault is the first

abbrev pub is_two : Option ℤ → Bool
is_two None = false
is_two (Some (pos n)) = n == 2
is_two (Some (negsuc n)) = false

unfoldable pub is_version_two : Members → Bool
is_version_two document = is_two (integer_at (codes "") (codes "version") document)

-- what the tests of all keys depend on, and whether a key is checked

abbrev pub basis_of : Bool → Members → Basis
basis_of need_own document = record { tick = tick_of document; is_version_two = is_version_two document; need_own = need_own }

abbrev pub counts : Basis → When → Bool
counts basis when.Always = true
counts basis when.InVersionOne = not basis.is_version_two
counts basis when.InVersionTwo = basis.is_version_two
counts basis when.ForOwnShip = basis.need_own

-- the fault of a key that counts, by the content of its table; none for keys of formulas, which are reported separately

abbrev pub fault_in : Basis → ℕ → List ℕ → Kind → Result Members Cause → Option (Key × Cause)
fault_in basis row name kind (Err cause) = fault_at row 0 cause
fault_in basis row name (kind.Number range) (Ok table) = fault_by row (number_cause (bounds_of basis.tick range) (get_member name table))
fault_in basis row name (kind.Numbers range) (Ok table) = fault_listed row (list_fault range (get_member name table))
fault_in basis row name kind.Plans (Ok document) = fault_by row (plans_cause basis.tick (sizes_of document))
fault_in basis row name (kind.Tables most) (Ok table) = fault_listed row (tables_fault most (get_member name table))
fault_in basis row name kind.Shape (Ok table) = fault_listed row (shape_fault (get_member name table))
fault_in basis row name kind.PredictedShip (Ok document) =
    predict_fault basis.tick (natural_at (codes "own") (codes "mmsi") document) (list_at (codes "") (codes "predict") document)
fault_in basis row name _ (Ok table) = None

unfoldable pub fault_of : Basis → Members → Row → Option (Key × Cause)
fault_of basis document row =
    if counts basis row.when then fault_in basis row.number row.name row.kind (table_at row.table document) else None
