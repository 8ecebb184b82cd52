use Rattle.std.proofs.Common.{◌≡◌, ◌++◌, ℕ, List, arith, refl, subst}
use Rattle.audit_rows.specs.declared.topic.Topic.TheVariants.{Meeting}
use Rattle.audit_rows.specs.Standing.{QueueStandsFor}
use Rattle.audit_rows.specs.Tracks.{Track}
use Rattle.auditor.specs.Tallies.{begun_tracks}
use Rattle.auditor.proofs.Begun.{begun_more, new_of_pair, new_rule}
use Rattle.auditor.proofs.audit_keeper.begin_tracks.Goals as goal

pub loop-rule-init : goal.loop-rule-init
loop-rule-init c = λ start bound tracks given h new le. c.in_ok-begin.ensures.stands tracks bound start given h (new_of_pair (Meeting c.args.pair) c.args.pair tracks refl new) le

pub loop-rule-preserved : goal.loop-rule-preserved
loop-rule-preserved c = λ start bound tracks given h new le.
    let pair = c.args.pair in
    let rule = c.loop-rule.rule in
    let so_far = c.loop-rule.invariant start bound tracks given h new le in
    subst (λ (ts : List Track). QueueStandsFor c.begin-in-loop-rule.new.self ts bound given) (begun_more pair tracks start rule)
    (c.in_ok-begin-2.ensures.stands (tracks ++ begun_tracks pair start rule) bound start given so_far (new_rule pair tracks start rule new) le)

pub returns : goal.returns
returns c = λ start bound tracks given h new le.
    let all : c.loop-rule.rule ≡ c.args.rules = omega arith in
    subst (λ (n : ℕ). QueueStandsFor c.loop-rule.queue (tracks ++ begun_tracks c.args.pair start n) bound given) all (c.loop-rule.invariant start bound tracks given h new le)
