pub mod Tracks
pub mod Stretches
pub mod Order
pub mod MarkCounts
pub mod Rows
pub mod Standing
pub mod Inner
