use Rattle.plan_situations.specs.FailingPlans.{BreaksARule, EntersDomain}
use Rattle.plan_situations.specs.Reasons.{IsFirstBroken, IsFirstEntry}
use Rattle.plan_situations.specs.Situations.{end_of}
use Rattle.plan_situations.specs.declared.reasons.BrokenRule.{BrokenRule}
use Rattle.plan_situations.proofs.FirstReasons.{entry_reason, found_where_some, rule_reason, second_alone}
use Rattle.plan_situations.proofs.situation.Situation.fails_towards.Goals as goal

pub returns : goal.returns
returns c =
    let s = c.args.self.now in
    let X = c.args.plan.now in
    let T = c.args.target.now in
    let enters = found_where_some (EntersDomain s X (end_of s) T) (IsFirstEntry s X (end_of s) T) c.in_ok-entry.entry c.is_some.result c.is_some.ensures
    (entry_reason s X T (end_of s)) (rw c.end-end.ensures.value at c.in_ok-entry.ensures) in
    let breaks = found_where_some (BreaksARule s X (end_of s) T) (IsFirstBroken s X (end_of s) T) c.in_ok-broken.broken c.is_some-2.result c.is_some-2.ensures
    (λ (broken : BrokenRule) h. rule_reason s X T (end_of s) broken.step broken.rule h.breaks) (rw c.end-end.ensures.value at c.in_ok-broken.ensures) in
    second_alone (EntersDomain s X (end_of s) T) (BreaksARule s X (end_of s) T) c.is_some.result c.is_some-2.result enters c.if-is_some.false breaks
