pub mod Rooms
pub mod Arguments
pub mod Calls
pub mod Inner
