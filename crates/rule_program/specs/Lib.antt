pub use Rattle.mtl_monitor.specs.Following
pub use Rattle.rule_set.specs.NamedTrees
pub mod Lags
