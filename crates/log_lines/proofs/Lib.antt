pub mod ForCallers
mod Counting
mod GoingOn
mod OneOutcome
mod Sending
mod Parts
mod Positions
mod Noting
mod Pushing
mod Streaming
mod Timing
