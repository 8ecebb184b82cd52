pub use Rattle.mtl_formulas.specs.FormulaTree
pub use Rattle.mtl_formulas.specs.FormulaMeasures
pub use Rattle.mtl_formulas.specs.Traces
pub mod Decided
pub mod Sweepable
pub mod Standing
pub mod Inner
