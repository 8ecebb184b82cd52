pub mod RuleTrees
pub mod NamedTrees
pub use Rattle.mtl_formulas.specs.FormulaTree
pub use Rattle.mtl_formulas.specs.FormulaMeasures
pub mod Inner
