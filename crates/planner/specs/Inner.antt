-- Definitions that no public clause cites.
pub mod Breaking
pub mod Watching
pub mod Legs
pub mod Levels
pub mod Walk
