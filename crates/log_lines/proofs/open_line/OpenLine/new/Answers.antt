use Rattle.std.proofs.Common.{rules}
use Rattle.log_lines.specs.GrowingLog.{open_part}
use Rattle.log_lines.proofs.open_line.OpenLine.new.Goals as goal

pub returns : goal.returns
unfolding open_part
returns c = search rules
