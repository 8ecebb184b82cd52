-- Lemmas for the crates above: what is decided, by how many rows, and what one row more decides.
pub use Rattle.mtl_early.proofs.Deciding.{decided_before, decided_earlier, decided_from, decided_front, decided_now, decided_still, decided_value, one_number, open_before, open_still, some_number, value_take}
pub use Rattle.mtl_monitor.proofs.ForCallers.{within_rows}
