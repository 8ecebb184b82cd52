-- The printed form of a scenario's fault, such as `log.gap: range`.
use Rattle.std.specs.Prelude.{ℕ, codes, List, [], ◌++◌, ◌==◌, length, find, Bool, true, false, if◌then◌else◌, Option, Some, None}
use Rattle.std.specs.Fmt.{decimal}
use Rattle.scenario_keys.specs.ScenarioKeys.{Row, rows}
use Rattle.scenario_keys.specs.declared.rows.Kind.{Kind}
use Rattle.scenario_keys.specs.declared.rows.Kind.TheVariants as kind
use Rattle.scenario_keys.specs.declared.key.Key.{Key}
use Rattle.scenario_keys.specs.declared.cause.Cause.{Cause}
use Rattle.scenario_keys.specs.declared.cause.Cause.TheVariants as cause
use Rattle.scenario_keys.specs.declared.fault.ScenarioFault.{ScenarioFault}
use Rattle.scenario_keys.specs.declared.fault.ScenarioFault.TheVariants as refusal

-- the key's name, after that of its table
abbrev pub name_text : Row → List ℕ
name_text row = if length row.table == 0 then row.name else row.table ++ codes "." ++ row.name

-- the faults of a list of integers and of a shape name an item, and those of a key in each table of a list name the table
abbrev pub has_items : Kind → Bool
has_items (kind.Numbers range) = true
has_items kind.Shape = true
has_items kind.FormulaName = true
has_items kind.FormulaText = true
has_items kind.PredictedShip = true
has_items kind.PredictedChanges = true
has_items _ = false

abbrev pub row_key_text : ℕ → Option Row → List ℕ
row_key_text item None = []
row_key_text item (Some row) = if has_items row.kind then name_text row ++ codes "[" ++ decimal item ++ codes "]" else name_text row

-- A key prints as the name of its row in the table of keys, with the item in brackets if it has items, and as nothing
-- if the table has no such row.
abbrev pub key_text : Key → List ℕ
key_text key = row_key_text key.item (find (λ row. row.number == key.row) rows)

abbrev pub cause_text : Cause → List ℕ
cause_text cause.NotToml = codes "not toml"
cause_text cause.Missing = codes "missing"
cause_text cause.Type_ = codes "type"
cause_text cause.Range = codes "range"
cause_text cause.Multiple = codes "multiple"
cause_text (cause.Formula place) = codes "formula at " ++ decimal place
cause_text cause.Product = codes "product"

abbrev pub fault_text : Key → Cause → List ℕ
fault_text key cause = key_text key ++ codes ": " ++ cause_text cause

abbrev pub refusal_text : ScenarioFault → List ℕ
refusal_text (refusal.Fault key cause) = fault_text key cause
refusal_text refusal.Memory = codes "out of memory"
