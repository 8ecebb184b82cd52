pub use Rattle.tracks.specs.AcceptedReports
pub mod GivingWay
pub mod VesselRanks
pub mod Standing
pub mod Inner
