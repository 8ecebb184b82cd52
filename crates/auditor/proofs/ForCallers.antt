-- Lemmas for the crates above: the laws, that traces which have begun stay, and that a pair has one trace and a
-- position of a meeting one mark.
pub use Rattle.traces.proofs.ForCallers.{more_stay}
pub use Rattle.auditor.proofs.OneAudit.{one_list_of_rows, one_list_of_totals, same_traced}
pub use Rattle.auditor.proofs.SameMarks.{one_meeting_mark}
