pub mod Ways
pub mod EdgeSides
