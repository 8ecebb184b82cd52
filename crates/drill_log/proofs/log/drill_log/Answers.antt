use Rattle.std.proofs.Common.{ℕ, ◌+◌, ap, ◌∙◌}
use Rattle.std.proofs.lemmas.Result.{IfOk-weaker}
use Rattle.drill_log.proofs.Minutes.{whole_log}
use Rattle.drill_log.proofs.log.drill_log.Goals as goal

pub returns : goal.returns
returns c =
    let whole = whole_log c.args.scenario.now c.args.seed (c.minutes_in-reports.result + 1) c.deref.result.now (c.deref.ensures.value ∙ c.in_ok-vessels.ensures.figures)
    (ap (λ (n : ℕ). n + 1) c.minutes_in-reports.ensures.value) in
    IfOk-weaker c.lines_between.result _ _ (λ lines is. is ∙ whole) c.lines_between.ensures
