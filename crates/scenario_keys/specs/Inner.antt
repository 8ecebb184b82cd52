-- Definitions that no public clause of the crates above cites.
pub mod SeenRows
pub mod ViewedResults
