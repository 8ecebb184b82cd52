pub mod ForCallers
pub mod Decided
pub mod Lasting
pub mod OneState
