pub mod Parts
pub mod LastPassing
pub mod Search
pub mod Displacements
pub mod Speed
pub mod Joined
