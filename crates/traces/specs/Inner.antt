pub mod Pairing
pub mod TracesKept
pub mod Places
pub mod Distances
