pub mod VerdictOrder
pub mod FormulaTree
pub mod FormulaMeasures
pub mod FormulaValue
pub mod Traces
pub mod Glances
