-- Definitions that proofs need and no public clause cites.
pub mod Streaming
pub mod LineBytes
pub mod SetUps
pub mod WordsFaults
pub mod Migrating
pub mod Fetching
