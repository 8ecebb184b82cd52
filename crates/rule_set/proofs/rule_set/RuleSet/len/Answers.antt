use Rattle.rule_set.proofs.RuleLists.{are_rules}
use Rattle.rule_set.proofs.rule_set.RuleSet.len.Goals as goal

pub returns-clause-rules : goal.returns-clause-rules
returns-clause-rules c = rw (← c.self.view_is) (are_rules c.self.inside.rules.items c.self.invariant.0 c.self.invariant.1)
