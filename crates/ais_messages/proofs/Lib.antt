pub mod ReadAgain
pub mod Texts
pub mod Writing
