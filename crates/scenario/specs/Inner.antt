-- Definitions that no public clause cites.
pub mod KnownKeys
pub mod NoFaults
pub mod WithinBounds
pub mod PutTogether
