use Rattle.std.proofs.Common.{ap, length, ◌∙◌, ◌<◌, arith, take}
use Rattle.log_lines.specs.LogLines.{without_carriage_return}
use Rattle.log_lines.specs.GrowingLog.{open_part}
use Rattle.log_lines.proofs.Parts.{long, whole}
use Rattle.log_lines.proofs.open_line.OpenLine.line.Goals as goal

pub returns-then-len-ge-KEPT : goal.returns-then-len-ge-KEPT
returns-then-len-ge-KEPT c = λ log stands. let size = ap length stands in long (open_part log) (omega (arith, size))

pub returns : goal.returns
returns c = λ log stands.
    let size = ap length stands in
    let short : length (take 1026 (open_part log)) < 1026 = omega (arith, size) in
    c.strip_carriage_return.ensures ∙ ap without_carriage_return (c.as_slice.ensures.value ∙ stands ∙ whole 1026 (open_part log) short)
