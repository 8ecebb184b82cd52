use Rattle.log_lines.specs.LogLines.{is_line_feed}
use Rattle.log_lines.proofs.Positions.{position-IsFirstByte}
use Rattle.log_lines.proofs.line_feeds.first_line_feed.Goals as goal

pub returns : goal.returns
returns c = position-IsFirstByte is_line_feed c.args.rest.now c.memchr.result c.memchr.ensures
