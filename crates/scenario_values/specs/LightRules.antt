-- Valid rules with a monitor that does not take too much memory.
use Rattle.std.specs.Prelude.{ℕ, ◌≤◌, List, sum_by}
use Rattle.mtl_formulas.specs.FormulaMeasures.{weight_of}
use Rattle.rule_set.specs.NamedTrees.{NamedTree, AreRules}

-- the total weight of rules, which determines a monitor's memory
abbrev pub total_weight : List NamedTree → ℕ
total_weight rules = sum_by (λ (rule : NamedTree). weight_of rule.tree) rules

abbrev pub greatest_weight : ℕ
greatest_weight = 65536

-- The rules are right: not too many, with different names, each a valid formula, and light enough together.
pub record AreLightRules (rules : List NamedTree) : Type 0 where
  pub right : AreRules rules
  pub light : total_weight rules ≤ greatest_weight
