use Rattle.std.proofs.Common.{◌≡◌, ap, sym, take, ◌∙◌, ◌++◌, ◌-◌, length, min, arith}
use Rattle.log_lines.specs.GrowingLog.{open_part}
use Rattle.log_lines.proofs.Parts.{open_so_far, take_on}
use Rattle.log_lines.proofs.open_line.OpenLine.extend.Goals as goal

pub returns : goal.returns
returns c = λ log stands.
    let on : take 1026 (open_part log ++ c.args.part.now) ≡ take 1026 (open_part (log ++ c.args.part.now)) = ap (take 1026) (sym (open_so_far log c.args.part.now c.requires)) in
    let kept = take_on 1026 (open_part log) c.args.part.now in
    let size = ap length stands in
    let count : c.min-count.result ≡ min (length c.args.part.now) (1026 - length (take 1026 (open_part log))) = omega (arith, size) in
    c.in_ok-extend_from_slice.ensures.items ∙ ap (λ front. front ++ take c.min-count.result c.args.part.now) stands
    ∙ ap (λ n. take 1026 (open_part log) ++ take n c.args.part.now) count ∙ kept ∙ on
