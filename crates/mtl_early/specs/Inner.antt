pub mod Counts
pub mod Cells
pub mod Nodes
pub mod Built
pub mod Zones
pub mod Rests
pub mod Looking
