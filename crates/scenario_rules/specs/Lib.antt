pub mod FormulaTables
pub mod ScenarioRules
pub use Rattle.rule_set.specs.RuleTrees
pub use Rattle.rule_set.specs.NamedTrees
pub use Rattle.mtl_formulas.specs.FormulaTree
pub use Rattle.mtl_formulas.specs.FormulaMeasures
pub use Rattle.mtl_language.specs.FormulaReading
pub mod Inner
