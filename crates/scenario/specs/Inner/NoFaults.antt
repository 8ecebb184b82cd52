-- The keys from which values are read, without a fault: those before the formulas, or those of own ship.
use Rattle.std.specs.Prelude.{◌≡◌, Bool, true, false, List, All, None}
use Rattle.toml.specs.Data.{Members}
use Rattle.scenario_keys.specs.ScenarioKeys.{Row, first_rows, own_rows}
use Rattle.scenario.specs.KeyFaults.{basis_of, fault_of}

abbrev pub rows_by : Bool → List Row
rows_by false = first_rows
rows_by true = own_rows

abbrev pub HaveNoFault : Bool → Members → Type 0
HaveNoFault own document = All (λ here. fault_of (basis_of own document) document here ≡ None) (rows_by own)
