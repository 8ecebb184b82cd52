pub use Rattle.audit_rows.specs.Order
pub use Rattle.mtl_formulas.specs.FormulaTree
pub use Rattle.mtl_formulas.specs.FormulaMeasures
pub use Rattle.mtl_formulas.specs.Traces
pub use Rattle.mtl_early.specs.Decided
pub use Rattle.rule_set.specs.NamedTrees
pub use Rattle.rule_program.specs.Lags
pub use Rattle.traces.specs.Audited
pub use Rattle.traces.specs.Known as KnownTraces
pub mod Standing
pub mod Alarms
pub mod Watching
pub mod Inner
