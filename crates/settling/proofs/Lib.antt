pub mod SomeMarks
pub mod MoreMarks
mod SameRows
mod SameAlarms
mod Fronts
mod Seen
mod DecidedItems
mod DecidedRows
mod DecidedAlarms
mod TakenTicks
mod AuditedTicks
mod WatchedTicks
mod NoLines
pub mod ForCallers
