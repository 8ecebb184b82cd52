use Rattle.log_lines.proofs.Parts.{ended_by_feed, open_by_feed}
use Rattle.log_lines.proofs.laws.a_line_feed_ends.Goals as goal

pub returns-clause-ended : goal.returns-clause-ended
returns-clause-ended c = ended_by_feed

pub returns-clause-open : goal.returns-clause-open
returns-clause-open c = open_by_feed
