pub mod Drawing
pub mod Lines
pub mod Lists
pub mod Logs
pub mod Minutes
pub mod ReadAgain
pub mod Reports
pub mod Sums
