pub mod Verdicts
pub mod Windows
pub mod Values
pub mod PrefixLaw
pub mod ReachLaw
