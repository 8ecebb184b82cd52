pub use Rattle.mtl_formulas.specs.FormulaTree
pub use Rattle.mtl_formulas.specs.FormulaMeasures
pub mod Reaches
pub mod WindowCounts
pub mod Following
pub mod Growing
pub mod Monitoring
pub mod Inner
