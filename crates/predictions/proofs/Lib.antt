mod Lists
mod Tables
pub mod Ranges
