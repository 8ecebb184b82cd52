pub mod Ranges
pub mod LagLaws
pub mod LagsOfRules
