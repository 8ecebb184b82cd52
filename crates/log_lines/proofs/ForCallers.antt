-- Lemmas for the crates above: a log that grows, lines judged one after the other, how many messages they send, what a later message leaves
-- as it was, and the counts at the outcomes' indexes.
pub use Rattle.log_lines.proofs.Counting.{place_within}
pub use Rattle.log_lines.proofs.Noting.{types_stay}
pub use Rattle.log_lines.proofs.Parts.{ended_by_feed, ended_so_far, lines_ended_or_open, open_by_feed, open_so_far}
pub use Rattle.log_lines.proofs.Sending.{few_sent}
pub use Rattle.log_lines.proofs.Pushing.{judged-push, nothing_judged, sent-push, static_reports-push}
