pub mod Elements
pub mod FoundRows
pub mod ForCallers
