use Rattle.std.proofs.Common.{List, ℕ, ap, sym, subst, ◌∙◌}
use Rattle.std.specs.Option.{option_copied}
use Rattle.log_lines.specs.LogLines.{without_carriage_return}
use Rattle.log_lines.specs.Standing.{IsKnownLine}
use Rattle.log_lines.proofs.Streaming.{open_line, part_alone}
use Rattle.log_lines.proofs.open_line.OpenLine.ended_by.Goals as goal

pub returns-then-is_empty : goal.returns-then-is_empty
returns-then-is_empty c = λ log extended.
    c.strip_carriage_return.ensures ∙ ap without_carriage_return
    (part_alone c.args.self.now log c.args.part.now extended (sym (c.is_empty.ensures extended.stood extended.stands) ∙ c.if-is_empty.true))

pub returns-else-is_empty : goal.returns-else-is_empty
returns-else-is_empty c = λ log extended.
    subst (λ (o : List ℕ). IsKnownLine (option_copied c.line.result) (without_carriage_return o))
    (open_line c.args.self.now log c.args.part.now extended (sym (c.is_empty.ensures extended.stood extended.stands) ∙ c.if-is_empty.false)) (c.line.ensures extended.stood extended.stands)
