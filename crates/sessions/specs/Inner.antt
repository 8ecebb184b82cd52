-- Definitions that proofs need and no public clause cites.
pub mod Faults
pub mod Working
pub mod AtEnd
pub mod Lines
pub mod Pieces
pub mod PlanWriting
pub mod Rechecking
