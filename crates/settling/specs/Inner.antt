pub mod TakenTicks
pub mod AuditedTicks
pub mod WatchedTicks
