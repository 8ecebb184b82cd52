use Rattle.std.proofs.Common.{sym, ◌∙◌}
use Rattle.std.proofs.lemmas.Result.{on_ok_weaker}
use Rattle.log_lines.proofs.Streaming.{goes_on_with, stays_without}
use Rattle.log_lines.proofs.open_line.OpenLine.extend_open.Goals as goal

pub returns-then-is_empty : goal.returns-then-is_empty
returns-then-is_empty c = λ log stands. stays_without c.args.self.now log c.args.part.now (sym (c.is_empty.ensures log stands) ∙ c.if-is_empty.true) stands

pub returns : goal.returns
returns c =
    on_ok_weaker c.extend.result (λ goes log stands.
    goes_on_with c.extend.new.self log c.args.part.now c.requires (sym (c.is_empty.ensures log stands) ∙ c.if-is_empty.false) (goes log stands)) c.extend.ensures
