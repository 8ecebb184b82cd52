pub mod Deciding
pub mod ForCallers
pub mod Ahead
pub mod Sweeps
pub mod Zones
pub mod Rests
pub mod SweepLooks
pub mod Putting
