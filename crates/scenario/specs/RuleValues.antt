-- The rules of a document: the numbers of those of the COLREGs 1972, and the tables of the formulas that it adds.
use Rattle.std.specs.Prelude.{if◌then◌else◌, codes, List}
use Rattle.toml.specs.Data.{Data, Members}
use Rattle.scenario_keys.specs.KeyValues.{list_at, natural_at}
use Rattle.rule_set.specs.NamedTrees.{NamedTree}
use Rattle.rule_set.specs.declared.numbers.RuleNumbers.{RuleNumbers}
use Rattle.rule_set.specs.declared.numbers.Safe.{Safe}
use Rattle.rule_set.specs.declared.numbers.Safe.TheVariants as safe
use Rattle.scenario_rules.specs.ScenarioRules.{AreScenarioRules}
use Rattle.scenario.specs.KeyFaults.{is_version_two, tick_of}
use Rattle.scenario.specs.Purposes.{ranking_of}
use Rattle.scenario.specs.declared.purpose.Purpose.{Purpose}

-- the numbers of the rules' formulas, in metres and seconds; version 1 has a single safe distance, and version 2 one
-- per kind of encounter
unfoldable pub safe_of : Members → Safe
safe_of document =
    if is_version_two document
    then safe.PerKind
    (natural_at (codes "rules") (codes "safe_head_on") document)
    (natural_at (codes "rules") (codes "safe_overtaking") document)
    (natural_at (codes "rules") (codes "safe_crossing") document)
    (natural_at (codes "rules") (codes "safe_other") document)
    else safe.One (natural_at (codes "rules") (codes "safe") document)

unfoldable pub rule_numbers_of : Members → RuleNumbers
rule_numbers_of document = record {
  safe = safe_of document;
  overtake = natural_at (codes "rules") (codes "overtake") document;
  close = natural_at (codes "rules") (codes "close") document;
  t8 = natural_at (codes "rules") (codes "t8") document;
  ta = natural_at (codes "rules") (codes "ta") document;
  tl = natural_at (codes "rules") (codes "tl") document;
  tw = natural_at (codes "rules") (codes "tw") document;
  te = natural_at (codes "rules") (codes "te") document;
}

unfoldable pub formula_tables : Members → List Data
formula_tables document = list_at (codes "") (codes "formula") document

-- The rules are those of the COLREGs 1972 with these numbers, with ranks or without, followed by the formulas of these tables.
abbrev pub AreRulesOf : Purpose → Members → List NamedTree → Type 0
AreRulesOf purpose document rules = AreScenarioRules (ranking_of purpose document) (tick_of document) (rule_numbers_of document) (formula_tables document) rules
