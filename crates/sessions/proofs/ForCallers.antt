-- Lemmas for the crates above: what a log comes to is one thing, refusals stay where more of the log follows, which of them come when, and what
-- an answer says of those before it. Own ship and her manoeuvre are one.
pub use Rattle.sessions.proofs.Meeting.{behind_own, behind_search, behind_targets, behind_traces, behind_vessels, entry_fault, reported}
pub use Rattle.sessions.proofs.OneManoeuvre.{one_manoeuvre}
pub use Rattle.sessions.proofs.OneOwn.{one_own, one_ready}
pub use Rattle.sessions.proofs.Refusing.{before_refused, bytes_not_at_end, entry_not_stopped, nothing_with_entry, nothing_with_own, nothing_with_targets, one_met, own_not_stopped, stopped_long, stopped_on, targets_not_stopped}
pub use Rattle.sessions.proofs.Working.{nothing_refused, nothing_settled}
