use Rattle.std.proofs.Common.{ℕ, ◌+◌, ◌-◌, List, ◌++◌, flat_map, ap, ◌∙◌}
use Rattle.std.specs.List.{range_with_len}
use Rattle.drill_log.specs.Inner.MinuteLines.{lines_at}
use Rattle.drill_log.proofs.Minutes.{whole_log}
use Rattle.drill_log.proofs.minute_log.MinuteLog.new.Goals as goal

pub returns-clause-left : goal.returns-clause-left
returns-clause-left c =
    let scenario = c.args.scenario.now in
    let reports = c.minutes_in.result + 1 in
    let vessels = c.in_ok-vessels.field-0.items in
    ap (λ (l : List ℕ). l ++ flat_map (lines_at scenario.reference scenario.window.start vessels) (range_with_len 0 (reports - 0))) (c.new-2.ensures.left ∙ c.new.ensures.items)
    ∙ whole_log scenario c.args.seed reports vessels c.in_ok-vessels.ensures.figures (ap (λ (n : ℕ). n + 1) c.minutes_in.ensures.value)
