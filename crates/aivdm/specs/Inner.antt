-- Definitions that no public clause cites: how the code cuts a line, and the content of its private types.
pub mod KeptParts
pub mod LineCuts
pub mod OpenRuns
pub mod Seen
pub mod Sextets
