-- Lemmas for the crates above: what is decided, by how many rows, and where that is the whole reach; that before the first tick there
-- is no alarm; which steps decide alarms, their order, and that they are one list.
pub use Rattle.mtl_early.proofs.ForCallers.{decided_from, decided_front, decided_still, decided_value, one_number, some_number, value_take, within_rows}
pub use Rattle.early_monitor.proofs.LastNo.{no_last}
pub use Rattle.early_monitor.proofs.AllAlarms.{decided_within, earlier_first, no_alarms}
pub use Rattle.early_monitor.proofs.Alarms.{alarm_total}
pub use Rattle.early_monitor.proofs.OneList.{in_order, itself, one_list_of_alarms, same_alarms}
