use Rattle.std.proofs.Common.{[]}
use Rattle.sessions.proofs.recheck.no_plan.Goals as goal

pub returns : goal.returns
returns c = c.in_ok-into_bytes.ensures _ (c.in_ok-write.ensures [] c.new-text.ensures)
