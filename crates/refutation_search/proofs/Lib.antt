pub mod FirstEntries
pub mod Walking
