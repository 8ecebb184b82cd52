use Rattle.std.proofs.Common.{ℕ, ◌<◌, map}
use Rattle.meetings.specs.Answers.{answer_of}
use Rattle.rule_set.specs.NamedTrees.{rule_at}
use Rattle.plan_situations.specs.FailingPlans.{IsNewlyBrokenHere}
use Rattle.plan_situations.proofs.situation.Situation.first_rule.Given as goal

abbrev pub invariant-loop-rule : goal.invariant-loop-rule
invariant-loop-rule l = (i : ℕ) → i < l.rule → ¬ IsNewlyBrokenHere l.cut (map answer_of l.rows) (rule_at l.self.rules i).tree l.position
