pub mod Advancing
pub mod AtOnce
pub mod Digits
pub mod Steering
