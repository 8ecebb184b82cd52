pub mod LightRules
pub mod ValueRanges
pub mod Ticks
