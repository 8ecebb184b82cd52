pub mod DrillFacts
pub mod DrillLog
pub mod MadeLog
pub mod Inner
pub use Rattle.scenario_values.specs.ValueRanges
