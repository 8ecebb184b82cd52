-- Definitions that no public clause cites.
pub mod VesselFigures
pub mod MinuteLines
