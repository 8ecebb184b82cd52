-- The first fault of a document, in the order of the table of keys.
use Rattle.std.specs.Prelude.{◌≡◌, All, Option, None}
use Rattle.toml.specs.Data.{Members}
use Rattle.rule_set.specs.declared.ranking.Ranking.{Ranking}
use Rattle.scenario_keys.specs.FirstFaults.{IsFirst}
use Rattle.scenario_keys.specs.ScenarioKeys.{Row, rows}
use Rattle.scenario_keys.specs.declared.rows.Kind.{Kind}
use Rattle.scenario_keys.specs.declared.rows.Kind.TheVariants as kind
use Rattle.scenario_keys.specs.declared.key.Key.{Key}
use Rattle.scenario_keys.specs.declared.cause.Cause.{Cause}
use Rattle.scenario_rules.specs.FormulaTables.{IsFormulaFault}
use Rattle.scenario_rules.specs.ScenarioRules.{IsWeightFault}
use Rattle.scenario.specs.KeyFaults.{basis_of, fault_of, tick_of}
use Rattle.scenario.specs.RuleValues.{formula_tables, rule_numbers_of}
use Rattle.scenario.specs.Purposes.{ranking_of}
use Rattle.scenario.specs.declared.basis.Basis.{Basis}
use Rattle.scenario.specs.declared.purpose.Purpose.{Purpose}

-- the result of the test of a key: its fault, or none; the name and the text of each formula are tested at the row of
-- the name

abbrev pub IsToldBy : Kind → Basis → Ranking → Members → Row → Option (Key × Cause) → Type 0
IsToldBy kind.FormulaName basis ranks document row told = IsFormulaFault ranks (tick_of document) (formula_tables document) told
IsToldBy kind.Formulas basis ranks document row told = IsWeightFault ranks (tick_of document) (rule_numbers_of document) (formula_tables document) told
IsToldBy _ basis ranks document row told = told ≡ fault_of basis document row

abbrev pub IsTold : Basis → Ranking → Members → Row → Option (Key × Cause) → Type 0
IsTold basis ranks document row told = IsToldBy row.kind basis ranks document row told

abbrev pub IsToldFor : Purpose → Members → Row → Option (Key × Cause) → Type 0
IsToldFor purpose document = IsTold (basis_of purpose.need_own document) (ranking_of purpose document) document

-- The fault is that of some key, and no key before it has one.
unfoldable pub IsFirstFault : Purpose → Members → Key × Cause → Type 0
IsFirstFault purpose document = IsFirst (IsToldFor purpose document) rows

-- No key has a fault.
unfoldable pub IsFaultless : Purpose → Members → Type 0
IsFaultless purpose document = All (λ here. IsToldFor purpose document here None) rows
