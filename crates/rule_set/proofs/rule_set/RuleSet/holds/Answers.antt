use Rattle.std.proofs.Common.{◌∙◌}
use Rattle.rule_set.proofs.RuleLists.{holds_of}
use Rattle.rule_set.proofs.rule_set.RuleSet.holds.Goals as goal

pub returns : goal.returns
returns c = rw (← c.self.view_is) (c.has_name.ensures ∙ (rw c.deref.ensures.value (holds_of c.self.inside.rules.items c.args.name.now)))
