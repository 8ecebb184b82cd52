-- Definitions that no public clause cites.
use Rattle.std.specs.Prelude.{◌≡◌, ℕ, List, [], ◌∷◌, ◌++◌, length, None}
use Rattle.toml.specs.Data.{Data}
use Rattle.rule_set.specs.NamedTrees.{NamedTree}
use Rattle.rule_set.specs.declared.numbers.RuleNumbers.{RuleNumbers}
use Rattle.rule_set.specs.declared.ranking.Ranking.{Ranking}
use Rattle.scenario_rules.specs.FormulaTables.{IsFormulaFault}
use Rattle.scenario_rules.specs.ScenarioRules.{AreScenarioRules, IsAdded}

-- The formula of a table is appended to the rules.
pub record Adds (tick : ℕ) (table : Data) (before after : List NamedTree) : Type 0 where
  pub rule : NamedTree
  pub behind : after ≡ before ++ rule ∷ []
  pub added : IsAdded tick table rule

-- The rules are those of the tables checked so far, which have no fault.
pub record Stands (ranks : Ranking) (tick : ℕ) (numbers : RuleNumbers) (tables : List Data) (held : List NamedTree) (index : ℕ) : Type 0 where
  pub item : index ≡ length tables
  pub rules : AreScenarioRules ranks tick numbers tables held
  pub faultless : IsFormulaFault ranks tick tables None
