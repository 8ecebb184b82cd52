-- Lemmas for the crates above: that the first bad row has one index, that right rows have none, and the entries of rows.
pub use Rattle.refutation_check.proofs.OneIndex.{one_index}
pub use Rattle.refutation_check.proofs.SoundRows.{are_entries, not_both, sound_front, tell_as_many, tell_front}
