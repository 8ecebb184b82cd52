pub mod TrackCounts
pub mod RowAnswers
pub mod AuditKeeping
pub mod TracesMarked
