use Rattle.std.proofs.Common.{◌-◌}
use Rattle.meetings.specs.Ranks.{all_power_driven}
use Rattle.meetings.specs.Traces.{steps_from}
use Rattle.plan_situations.specs.Situations.{own_at, target_at, terms_of}
use Rattle.plan_situations.proofs.Agreeing.{failing_reason}
use Rattle.plan_situations.proofs.laws.failing_has_a_reason.Goals as goal

pub returns : goal.returns
returns c = λ plan last.
    let s = c.args.situation.now in
    failing_reason s plan last (λ T start. c.there_are_rows.ensures.rows (terms_of s) all_power_driven (steps_from (own_at s plan) (target_at s T) start (last - start)))
