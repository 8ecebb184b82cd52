pub use Rattle.log_lines.specs.LineTimes
pub use Rattle.log_lines.specs.SentLines
pub mod Settled
pub mod Sightings
pub mod Standing
pub mod Inner
