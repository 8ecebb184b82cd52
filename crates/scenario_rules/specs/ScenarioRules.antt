-- The rules of a scenario: those of the COLREGs 1972, eleven, or with ranks twelve, followed by the formulas of its
-- tables; and the result of the test of their weight.
use Rattle.std.specs.Prelude.{◌≡◌, ℕ, nat_le, if◌then◌else◌, List, [], ◌∷◌, ◌++◌, Option, Some, None}
use Rattle.toml.specs.Data.{Data}
use Rattle.mtl_language.specs.FormulaReading.{tree, IsMeaning}
use Rattle.rule_set.specs.NamedTrees.{NamedTree, rules_by}
use Rattle.rule_set.specs.declared.numbers.RuleNumbers.{RuleNumbers}
use Rattle.rule_set.specs.declared.ranking.Ranking.{Ranking}
use Rattle.scenario_values.specs.LightRules.{greatest_weight, total_weight}
use Rattle.scenario_keys.specs.ToldFaults.{fault_by}
use Rattle.scenario_keys.specs.declared.key.Key.{Key}
use Rattle.scenario_keys.specs.declared.cause.Cause.{Cause}
use Rattle.scenario_keys.specs.declared.cause.Cause.TheVariants as cause
use Rattle.scenario_rules.specs.FormulaTables.{formula_name_in, formula_text_in}

-- The rule is the formula of a table, under the table's name.
pub record IsAdded (tick : ℕ) (table : Data) (rule : NamedTree) : Type 0 where
  pub name : rule.name ≡ formula_name_in table
  pub meaning : IsMeaning (formula_text_in table) tick (tree rule.tree)

-- The rules are those of the tables, in their order.
abbrev pub AreAdded : ℕ → List Data → List NamedTree → Type 0
AreAdded tick [] [] = Unit {0}
AreAdded tick (here ∷ tables) (rule ∷ rules) = IsAdded tick here rule × AreAdded tick tables rules
AreAdded tick _ _ = ⊥

pub record AreScenarioRules (ranks : Ranking) (tick : ℕ) (numbers : RuleNumbers) (tables : List Data) (rules : List NamedTree) : Type 0 where
  pub added : List NamedTree
  pub order : rules ≡ rules_by ranks tick numbers ++ added
  pub are_added : AreAdded tick tables added

-- the result of the test of their weight

abbrev pub weight_cause : ℕ → Option Cause
weight_cause weight = if nat_le weight greatest_weight then None else Some cause.Product

abbrev pub IsWeightFault : Ranking → ℕ → RuleNumbers → List Data → Option (Key × Cause) → Type 0
IsWeightFault ranks tick numbers tables told =
    (rules : List NamedTree) × AreScenarioRules ranks tick numbers tables rules × (told ≡ fault_by 34 (weight_cause (total_weight rules)))
