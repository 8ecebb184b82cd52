pub mod Modes
pub mod Tasks
