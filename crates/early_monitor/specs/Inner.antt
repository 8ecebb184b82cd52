pub mod Known
pub mod Passing
pub mod EarlyStates
pub mod Room
pub mod Breaches
pub mod RulesWatched
pub mod TraceWatched
pub mod TracesWatched
