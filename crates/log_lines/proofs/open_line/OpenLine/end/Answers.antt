use Rattle.std.proofs.Common.{ap, sym, take, ◌∙◌}
use Rattle.log_lines.proofs.Parts.{open_by_feed}
use Rattle.log_lines.proofs.open_line.OpenLine.end.Goals as goal

pub returns : goal.returns
returns c = λ log stands. c.clear.ensures.items ∙ ap (take 1026) (sym (open_by_feed log))
