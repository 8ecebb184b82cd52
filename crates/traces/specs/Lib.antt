pub use Rattle.meetings.specs.Atoms
pub use Rattle.meetings.specs.Traces
pub use Rattle.mtl_formulas.specs.Traces as MonitorTraces
pub use Rattle.rule_set.specs.NamedTrees
pub use Rattle.ranks.specs.GivingWay
pub mod PairRanks
pub mod Audited
pub mod Contacts
pub mod FaultTexts
pub mod Known
pub mod Keeping
pub mod ManyTraces
pub mod Standing
pub mod Window
pub mod Inner
