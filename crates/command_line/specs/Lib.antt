pub mod CommandLine
pub mod GivenArguments
pub mod Requests
pub mod InfoArguments
pub mod Inner
