pub mod Sorts
pub mod Closed
pub mod Lanes
pub mod Queues
